-- What a sheet of shares says.
use Rattle.std.specs.Prelude.{◌≡◌, ℕ, Some, ◌*◌, ◌/◌, ◌%◌, List, map, length, vec_items, sum, slice_index}
use Rattle.std.specs.List.{range_with_len}
use Rattle.divide.specs.Refusals.{refusal, Shareable}
use Rattle.divide.specs.Exact.{Exact}
use Rattle.divide.specs.Remainders.{remainders}
use Rattle.divide.specs.Running.{running}
use Rattle.worksheet.specs.declared.fault.SheetFault.{SheetFault}
use Rattle.worksheet.specs.declared.fault.SheetFault.TheVariants.{Refused, NoMemory}
use Rattle.worksheet.specs.declared.sheet.ShareLine.{ShareLine}
use Rattle.worksheet.specs.declared.sheet.ShareSheet.{ShareSheet}

-- the column holds the shares of t among ws by a rule, and they are exact
pub record Column (shares : ℕ → List ℕ → List ℕ) (t : ℕ) (ws column : List ℕ) : Type 0 where
  pub shareable : Shareable t ws
  pub is : column ≡ shares t ws
  pub exact : Exact t ws column

-- the line of place k: the exact proportion t × w / W as a whole part and a remainder over W, and both shares
abbrev pub line : ℕ → List ℕ → ℕ → ShareLine
line t ws k = record {
  weight = slice_index ws k;
  whole = t * slice_index ws k / sum ws;
  rest = t * slice_index ws k % sum ws;
  by_remainders = slice_index (remainders t ws) k;
  by_running = slice_index (running t ws) k;
}

-- the sheet of t shared among ws: both columns of shares add up to t
pub record Sheet (t : ℕ) (ws : List ℕ) (s : ShareSheet) : Type 0 where
  pub total : s.total ≡ t
  pub weight_sum : s.weight_sum ≡ sum ws
  pub lines : vec_items s.lines ≡ map (line t ws) (range_with_len 0 (length ws))
  pub remainders_sum : s.remainders_sum ≡ t
  pub running_sum : s.running_sum ≡ t

-- a refusal is the dividers' own; want of memory may come at any time
abbrev pub Faulted : ℕ → List ℕ → SheetFault → Type 0
Faulted t ws (Refused e) = refusal t ws (length ws) ≡ Some e
Faulted t ws NoMemory = Unit {0}
