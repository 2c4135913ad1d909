use Rattle.std.proofs.Common.{◌≡◌, ap, sym, subst, ◌∙◌}
use Rattle.std.specs.Prelude.{Contains}
use Rattle.std.specs.List.{dedup}
use Rattle.std.specs.Ordering.{int_eq}
use Rattle.std.proofs.lemmas.List.Filters.{dedup_is}
use Rattle.almanac_laws.specs.Handovers.{handovers_of}
use Rattle.piece_verdict.specs.Cuts.{cut_times}
use Rattle.piece_verdict.proofs.Orders.{dedup_rises, dedup_keeps, dedup_from}
use Rattle.piece_verdict.proofs.cuts.cuts_of.Goals as goal

pub returns : goal.returns
returns c =
    let is : c.dedup.new.self.items ≡ dedup int_eq c.sort_unstable.new.self.items = dedup_is int_eq _ _ c.dedup.ensures.filtered in
    let moved = c.sort_unstable.ensures.permutation in
    let times : c.in_ok-times.times.items ≡ cut_times c.args.route.now c.args.outages.now (handovers_of c.args.almanac_times.now) = c.in_ok-times.ensures ∙ ap (λ hs. cut_times c.args.route.now c.args.outages.now hs) (c.as_slice.ensures.value ∙ c.in_ok-handovers.ensures) in
    rw is (record {
      rising = dedup_rises c.sort_unstable.new.self.items c.sort_unstable.ensures.sorted;
      all = λ t. (
        λ m. subst (λ xs. Contains xs t) times (dedup_from c.in_ok-times.times.items c.sort_unstable.new.self.items moved t m),
        λ m. dedup_keeps c.in_ok-times.times.items c.sort_unstable.new.self.items moved t (subst (λ xs. Contains xs t) (sym times) m),
      );
    })
