-- How a fault is printed.
use Rattle.std.specs.Prelude.{ℕ, ◌+◌, ◌-◌, ◌^◌, min, List, [], ◌++◌, codes, string_bytes}
use Rattle.std.specs.Fmt.{decimal}
use Rattle.scorefile.specs.Form.{heading_word}
use Rattle.scorefile.specs.declared.form.Heading.{Heading}
use Rattle.scorefile.specs.declared.form.Heading.TheVariants as heading
use Rattle.scorefile.specs.declared.form.Expected.{Expected}
use Rattle.scorefile.specs.declared.form.Expected.TheVariants as expected
use Rattle.scorefile.specs.declared.fault.Found.{Found}
use Rattle.scorefile.specs.declared.fault.Found.TheVariants as found
use Rattle.scorefile.specs.declared.fault.Misread.{Misread}
use Rattle.scorefile.specs.declared.fault.FileFault.{FileFault}
use Rattle.scorefile.specs.declared.fault.FileFault.TheVariants as fault

-- what may stand instead of a line with this heading
abbrev pub alternative : Heading → List ℕ
alternative heading.Assigned = []
alternative heading.Historic = []
alternative heading.Previous = []
alternative heading.Signal = []
alternative heading.Points = []
alternative heading.Blend = codes " or the end of the file"

-- what is printed of a heading that is expected
abbrev pub heading_text : Heading → List ℕ
heading_text h = ((codes "the word '" ++ heading_word h) ++ codes "'") ++ alternative h

-- what is printed of what is expected
abbrev pub expected_text : Expected → List ℕ
expected_text (expected.Heading h) = heading_text h
expected_text expected.Whole = codes "a whole number from 0 to 4294967295"
expected_text expected.Signed = codes "a whole number from -2147483648 to 2147483647"
expected_text expected.More = codes "a whole number from -2147483648 to 2147483647 or the end of the line"
expected_text expected.Scorer = codes "'precision', 'band' or 'historic'"
expected_text expected.LineEnd = codes "the end of the line"
expected_text expected.FileEnd = codes "the end of the file"

-- what is printed of what is found
abbrev pub found_text : Found → List ℕ
found_text (found.Word w) = (codes "'" ++ string_bytes w) ++ codes "'"
found_text found.LineEnd = expected_text expected.LineEnd
found_text found.FileEnd = expected_text expected.FileEnd

-- the line that is printed: where the file ends, the one after the last that has words, as far as there is one
abbrev pub printed_line : ℕ → Found → ℕ
printed_line line (found.Word w) = line
printed_line line found.LineEnd = line
printed_line line found.FileEnd = min (line + 1) (2 ^ 64 - 1)

-- what is printed of the first place that is not of its form
abbrev pub misread_text : Misread → List ℕ
misread_text m = ((((codes "line " ++ decimal (printed_line m.line m.found)) ++ codes ": expected ") ++ expected_text m.expected) ++ codes ", found ") ++ found_text m.found

-- what is printed of a fault
abbrev pub fault_text : FileFault → List ℕ
fault_text (fault.Misread m) = misread_text m
fault_text fault.NoMemory = codes "out of memory"
