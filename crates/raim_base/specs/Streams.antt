-- What one of two streams holds.
use Rattle.std.specs.Prelude.{ℕ, List}
use Rattle.std.specs.declared.option.Option.{Option}
use Rattle.raim_base.specs.declared.std_sink.StandardStream.{StandardStream}
use Rattle.raim_base.specs.declared.std_sink.StandardStream.TheVariants.{Output, Error}

-- what its writer holds
abbrev pub stream_contents : {O E : Type 0} → (O → Option (List ℕ)) → (E → Option (List ℕ)) → StandardStream O E → Option (List ℕ)
stream_contents output error (Output stream) = output stream
stream_contents output error (Error stream) = error stream
