-- Which faults are want of memory, and which reports are made.
use Rattle.std.specs.Prelude.{Bool, true, false, if◌then◌else◌, Result, Ok, Err, alloc_error}
use Rattle.std.specs.declared.alloc.AllocError.{AllocError}
use Rattle.worksheet.specs.declared.fault.RequestFault.{RequestFault}
use Rattle.worksheet.specs.declared.fault.RequestFault.TheVariants as request
use Rattle.scorefile.specs.declared.fault.FileFault.{FileFault}
use Rattle.scorefile.specs.declared.fault.FileFault.TheVariants as file

-- whether a fault of the words after `share` is want of memory
abbrev pub request_wants_memory : RequestFault → Bool
request_wants_memory request.NoTotal = false
request_wants_memory (request.NotATotal found) = false
request_wants_memory (request.NotAWeight place found) = false
request_wants_memory request.NoMemory = true

-- whether a fault of a score file is want of memory
abbrev pub file_wants_memory : FileFault → Bool
file_wants_memory (file.Misread misread) = false
file_wants_memory file.NoMemory = true

-- a report as it was made: an answer, or a fault that is not want of memory; for want of memory none is made
abbrev pub made_unless : {T F : Type 0} → (F → Bool) → Result T F → Result (Result T F) AllocError
made_unless wants_memory (Ok answer) = Ok (Ok answer)
made_unless wants_memory (Err fault) = if wants_memory fault then Err alloc_error else Ok (Err fault)
