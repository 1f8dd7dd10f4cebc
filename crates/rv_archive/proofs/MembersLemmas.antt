-- The members of parts, one after another.

use Rattle.std.proofs.Common.{◌≡◌, ℕ, ◌+◌, ◌<◌, List, [], ◌∷◌, ◌++◌, length, map, drop, get_or, refl, ap}
use Rattle.std.specs.Prelude.{Result, Ok, Err}
use Rattle.rv_list_laws.proofs.TakeDropLemmas.{drop_read_or}
use Rattle.rv_archive_laws.specs.declared.fault.ArchiveFault.{ArchiveFault}
use Rattle.rv_archive_laws.specs.Parts.{ArchivePart}
use Rattle.rv_archive_laws.specs.Members as laws
use Rattle.rv_archive_laws.specs.Outcomes.{each}
use Rattle.rv_archive.specs.declared.parts.Part.{Part}
use Rattle.rv_archive.specs.View.{plain_part}
use Rattle.rv_archive.proofs.OutcomesLemmas.{with_front, each_more, each_refused}

-- what is left, by its first part
left_is : (parts : List Part) (i : ℕ) (d : Part) → i < length parts → map plain_part (drop i parts) ≡ plain_part (get_or parts i d) ∷ map plain_part (drop (i + 1) parts)
left_is parts i d less = ap (map plain_part) (drop_read_or parts i (get_or parts i d) d less refl)

pub parts_more : (f : ArchivePart → Result laws.Member ArchiveFault) (done new : List laws.Member) (m : laws.Member) (parts : List Part) (i : ℕ) (d : Part) (whole : Result (List laws.Member) ArchiveFault)
    → i < length parts → new ≡ done ++ m ∷ [] → f (plain_part (get_or parts i d)) ≡ Ok m
    → with_front done (each f (map plain_part (drop i parts))) ≡ whole → with_front new (each f (map plain_part (drop (i + 1) parts))) ≡ whole
parts_more f done new m parts i d whole less is made so =
    each_more f done new m (plain_part (get_or parts i d)) (map plain_part (drop (i + 1) parts)) (map plain_part (drop i parts)) whole is made (left_is parts i d less) so

pub parts_refused : (f : ArchivePart → Result laws.Member ArchiveFault) (done : List laws.Member) (fault : ArchiveFault) (parts : List Part) (i : ℕ) (d : Part) (whole : Result (List laws.Member) ArchiveFault)
    → i < length parts → f (plain_part (get_or parts i d)) ≡ Err fault → with_front done (each f (map plain_part (drop i parts))) ≡ whole → whole ≡ Err fault
parts_refused f done fault parts i d whole less made so =
    each_refused f done fault (plain_part (get_or parts i d)) (map plain_part (drop (i + 1) parts)) (map plain_part (drop i parts)) whole made (left_is parts i d less) so
