-- An archive that GNU ar made of two texts, one of them with a long name, and the index that it made
-- of two objects.

use Rattle.std.specs.Prelude.{ℕ, zero, suc, List, [], ◌∷◌, ◌++◌, codes, Option, Some, None}
use Rattle.rv_archive_laws.specs.Parts.{ArchivePart}
use Rattle.rv_archive_laws.specs.Members.{Member}
use Rattle.rv_archive_laws.specs.Index.{Entry}
use Rattle.rv_archive_laws.specs.Taken.{Offer, ObjectNames}

abbrev pub worked_file : List ℕ
worked_file = codes "!<arch>\n"
    ++ codes "//                                              28        `\n"
    ++ codes "a_name_that_is_longer.txt/\n\n"
    ++ codes "a.txt/          0           0     0     644     3         `\nabc\n"
    ++ codes "/0              0           0     0     644     5         `\nhello\n"

abbrev pub worked_parts : List ArchivePart
worked_parts = record {
  place = 8;
  field = codes "//              ";
  bytes = codes "a_name_that_is_longer.txt/\n\n";
} ∷ record { place = 96; field = codes "a.txt/          "; bytes = codes "abc" }
    ∷ record { place = 160; field = codes "/0              "; bytes = codes "hello" } ∷ []

abbrev pub worked_members : List Member
worked_members = record { name = codes "a.txt"; place = 96; bytes = codes "abc" }
    ∷ record { name = codes "a_name_that_is_longer.txt"; place = 160; bytes = codes "hello" } ∷ []

-- three names: f of the member at B0h, g and h of that at 4A4h
abbrev pub worked_index : List ℕ
worked_index = 0 ∷ 0 ∷ 0 ∷ 3 ∷ 0 ∷ 0 ∷ 0 ∷ 0xB0 ∷ 0 ∷ 0 ∷ 4 ∷ 0xA4 ∷ 0 ∷ 0 ∷ 4 ∷ 0xA4
    ∷ 0x66 ∷ 0 ∷ 0x67 ∷ 0 ∷ 0x68 ∷ 0 ∷ []

abbrev pub indexed_members : List Member
indexed_members = record { name = codes "a.o"; place = 0xB0; bytes = [] }
    ∷ record { name = codes "b.o"; place = 0x4A4; bytes = [] } ∷ []

abbrev pub worked_entries : List Entry
worked_entries = record { name = codes "f"; member = 0 } ∷ record { name = codes "g"; member = 1 }
    ∷ record { name = codes "h"; member = 1 } ∷ []

-- ---- what a link takes: main wants f; the archive has g, and behind it f, which wants g

abbrev pub chain_offers : List Offer
chain_offers = record { name = None; object = 0; file = 1; group = 1 }
    ∷ record { name = Some (codes "g"); object = 1; file = 2; group = 2 }
    ∷ record { name = Some (codes "f"); object = 2; file = 2; group = 2 }
    ∷ record { name = Some (codes "h"); object = 3; file = 2; group = 2 } ∷ []

abbrev pub chain_names : ℕ → ObjectNames
chain_names zero = record { defined = codes "_start" ∷ []; undefined = codes "f" ∷ [] }
chain_names (suc zero) = record { defined = codes "g" ∷ []; undefined = [] }
chain_names (suc (suc zero)) = record { defined = codes "f" ∷ []; undefined = codes "g" ∷ [] }
chain_names object = record { defined = codes "h" ∷ []; undefined = [] }
