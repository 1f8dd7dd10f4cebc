-- What relaxation cuts of the sections of objects, by file and section.

use Rattle.std.specs.Prelude.{ℕ, suc, List, [], ◌∷◌, drop, map}
use Rattle.rv_size_laws.specs.declared.site.Site.{Site}
use Rattle.rv_object_laws.specs.Object.{Section, Object}
use Rattle.rv_link_laws.specs.Moves.{Move}
use Rattle.rv_link_laws.specs.Shortened.{Sizes, sizes_by, cuts}
use Rattle.rv_cut_laws.specs.Walk.{object_moves, passed_all}

-- of sections from an index on
abbrev pub section_cuts : (ℕ → Sizes) → ℕ → List Section → List (List Move)
section_cuts sizes index [] = []
section_cuts sizes index (s ∷ ss) = cuts (sizes index) s ∷ section_cuts sizes (suc index) ss

-- of files from a number on
abbrev pub cuts_from : (ℕ → ℕ → Sizes) → ℕ → List Object → List (List (List Move))
cuts_from sizes file [] = []
cuts_from sizes file (o ∷ os) =
    section_cuts (sizes file) 0 o.sections ∷ cuts_from sizes (suc file) os

-- where so many bytes of the call at each place are kept
abbrev pub object_cuts : List ℕ → List Object → List (List (List Move))
object_cuts kept os = cuts_from (sizes_by os kept) 1 os

-- as the sites of the text go by
abbrev pub walked_cuts : List Object → List Site → List ℕ → List (List (List Move))
walked_cuts [] sites kept = []
walked_cuts (o ∷ os) sites kept =
    let count = passed_all o.sections sites in
    object_moves o.sections sites kept ∷ walked_cuts os (drop count sites) (drop count kept)

-- nothing
abbrev pub no_cuts : List Object → List (List (List Move))
no_cuts os = map (λ o. map (λ s. []) o.sections) os
