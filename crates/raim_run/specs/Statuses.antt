-- The number of each status, which is the exit status of the program.
use Rattle.std.specs.Prelude.{ℕ}
use Rattle.raim_model.specs.declared.TextWhy.TheVariants.{FileTooLong}
use Rattle.flight_files.specs.declared.Stop.{Stop}
use Rattle.flight_files.specs.declared.Stop.TheVariants as stop
use Rattle.raim_model.specs.declared.SplitFault.{SplitFault}
use Rattle.raim_model.specs.declared.SplitFault.TheVariants as none
use Rattle.raim_run.specs.declared.status.Status.{Status}
use Rattle.raim_run.specs.declared.status.Status.TheVariants.{Done, Usage, Refused, ReadFault, WriteFault, Overflow, TooManyRuns, Memory}

abbrev pub number_of : Status → ℕ
number_of Done = 0
number_of Usage = 1
number_of (Refused file line why) = 2
number_of (ReadFault file) = 3
number_of WriteFault = 4
number_of (Overflow at prn) = 5
number_of TooManyRuns = 6
number_of Memory = 7

-- the status of a run whose reading was stopped
abbrev pub stop_status : Stop → Status
stop_status stop.Memory = Memory
stop_status (stop.Fault file) = ReadFault file
stop_status (stop.TooLong file) = Refused file 0 FileTooLong
stop_status (stop.Refused file line why) = Refused file line why

-- the status of a run that has no forecast
abbrev pub fault_status : SplitFault → Status
fault_status (none.Overflow at prn) = Overflow at prn
fault_status none.TooManyRuns = TooManyRuns
fault_status none.Memory = Memory
