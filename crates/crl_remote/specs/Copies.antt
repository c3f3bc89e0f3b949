-- What a node keeps of a region of another home, and what is true of it.
use Rattle.std.specs.Prelude.{ℕ, ◌≡◌, ◌<◌, List, length, Bool, false}
use Rattle.std.specs.declared.option.Option.{Option}
use Rattle.std.specs.declared.option.Option.TheVariants.{None, Some}
use Rattle.crl_model.specs.declared.directory.Section.{Section}
use Rattle.crl_model.specs.declared.directory.Section.TheVariants.{Closed, Reading, Writing}
use Rattle.crl_protocol.specs.Remote as remote
use Rattle.crl_remote.specs.declared.copy.Copy.{Copy}

abbrev pub copy_of : Option Copy → Option remote.Copy
copy_of None = None
copy_of (Some c) = Some (record { exclusive = c.exclusive; version = c.version; bytes = c.bytes })

-- there is paper for the pieces of so many bytes
abbrev pub ArePapers : ℕ → Option ℕ → Type 0
ArePapers size None = ⊥
ArePapers size (Some sheets) = sheets ≡ size

-- while a section is open here there is paper for the region's bytes
abbrev pub HasPaper : ℕ → Section → Option ℕ → Type 0
HasPaper size Closed sheets = Unit {0}
HasPaper size (Reading number) sheets = ArePapers size sheets
HasPaper size Writing sheets = ArePapers size sheets

abbrev pub IsSized : ℕ → Option Copy → Type 0
IsSized size None = Unit {0}
IsSized size (Some c) = length c.bytes ≡ size

abbrev pub IsReading : Section → Type 0
IsReading Closed = ⊥
IsReading (Reading number) = 0 < number
IsReading Writing = ⊥

abbrev pub IsWriting : Section → Type 0
IsWriting Closed = ⊥
IsWriting (Reading number) = ⊥
IsWriting Writing = Unit {0}

-- fewer read sections are open than so many
abbrev pub ReadsBelow : ℕ → Section → Type 0
ReadsBelow limit Closed = Unit {0}
ReadsBelow limit (Reading number) = number < limit
ReadsBelow limit Writing = Unit {0}

-- whether a copy is exclusive, and its version
abbrev pub kind_of : Option remote.Copy → Option (Bool × ℕ)
kind_of None = None
kind_of (Some c) = Some (c.exclusive, c.version)

abbrev pub bytes_of_copy : Option remote.Copy → Option (List ℕ)
bytes_of_copy None = None
bytes_of_copy (Some c) = Some c.bytes

-- if the last section was closed its paper is back
abbrev pub IsPaperBack : ℕ → Section → Option ℕ → Type 0
IsPaperBack size Closed sheets = ArePapers size sheets
IsPaperBack size (Reading number) sheets = Unit {0}
IsPaperBack size Writing sheets = Unit {0}

abbrev pub bytes_in_row : Option remote.Remote → Option (List ℕ)
bytes_in_row None = None
bytes_in_row (Some r) = bytes_of_copy r.copy

abbrev pub is_exclusive_copy : Option remote.Copy → Bool
is_exclusive_copy None = false
is_exclusive_copy (Some c) = c.exclusive

abbrev pub is_exclusive_row : Option remote.Remote → Bool
is_exclusive_row None = false
is_exclusive_row (Some r) = is_exclusive_copy r.copy
