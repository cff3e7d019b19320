-- A literal of an entry that the table takes asks for a limit that fits.
use Rattle.std.proofs.Common.{◌≡◌, ℕ, ◌<◌, true, List, length}
use Rattle.relaxing.specs.Limits.{Fits}
use Rattle.table_theory.proofs.Sound.{record_fits}
use Rattle.table_theory.specs.Drawing.{record_of}
use Rattle.tables.specs.Entries.{difference_fits, all_entries_fit}
use Rattle.tables.specs.declared.DifferenceEntry.{DifferenceEntry}
use Rattle.theory.specs.Meaning.{atom_of}
use Rattle.difference.specs.Differences.{spare_entry, entry_limit}
use Rattle.difference.specs.Laws.{limit_laws}

pub limit_of_fits : (variables : ℕ) (table : List DifferenceEntry) → all_entries_fit difference_fits variables table ≡ true → (code : ℕ)
    → atom_of code < length table → Fits variables (record_of entry_limit spare_entry table code)
limit_of_fits variables table taken code l = record_fits limit_laws spare_entry variables table taken code l
