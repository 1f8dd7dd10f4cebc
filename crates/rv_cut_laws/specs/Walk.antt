-- What the sites of a text cut out of its sections, one section after another.

use Rattle.std.specs.Prelude.{⊤, ℕ, suc, ◌+◌, ◌-◌, ◌&&◌, nat_lt, List, [], ◌∷◌, take, drop, if◌then◌else◌}
use Rattle.rv_size_laws.specs.declared.site.Site.{Site}
use Rattle.rv_size_laws.specs.Calls.{is_call}
use Rattle.rv_size_laws.specs.Sites.{site_end}
use Rattle.rv_object_laws.specs.Object.{Section, Object, size_of, stored}
use Rattle.rv_link_laws.specs.Moves.{Move}
use Rattle.rv_link_laws.specs.Inputs.{goes_to_text}
use Rattle.rv_link_laws.specs.CallSites.{link_register}
use Rattle.rv_link_laws.specs.Shortened.{short_call}
use Rattle.rv_cut_laws.specs.Cutting.{cut_object, AllCut}

-- the sites of a section of so many bytes, which begins at an offset
abbrev pub count_within : (first size : ℕ) → List Site → ℕ
count_within first size [] = 0
count_within first size (s ∷ ss) =
    if nat_lt (s.offset - first) size then suc (count_within first size ss) else 0

-- the calls among sites of which fewer than 8 bytes are kept, in a section with these bytes
abbrev pub moves_of : (first : ℕ) → List ℕ → List Site → List ℕ → List Move
moves_of first stored [] kept = []
moves_of first stored (s ∷ ss) [] = []
moves_of first stored (s ∷ ss) (k ∷ kept) =
    let place = s.offset - first in
    let rest = moves_of first stored ss kept in
    if is_call s.kind && nat_lt k 8
    then record { place = place; full = 8; text = short_call k (link_register stored place) } ∷ rest
    else rest

-- the sites that a section has, the padding at its start with them
abbrev pub passed_at : ℕ → List Site → ℕ
passed_at size [] = 0
passed_at size (start ∷ sites) = suc (count_within (site_end start) size sites)

abbrev pub passed : Section → List Site → ℕ
passed s sites = if goes_to_text s then passed_at (size_of s.contents) sites else 0

-- the calls of a section whose sites these are
abbrev pub own_moves : List ℕ → List Site → List ℕ → List Move
own_moves stored [] kept = []
own_moves stored (start ∷ sites) kept = moves_of (site_end start) stored sites (drop 1 kept)

-- the first sites are those of a section
abbrev pub section_moves : Section → List Site → List ℕ → List Move
section_moves s sites kept =
    let count = passed s sites in
    own_moves (stored s.contents) (take count sites) (take count kept)

-- those of all sections of an object
abbrev pub object_moves : List Section → List Site → List ℕ → List (List Move)
object_moves [] sites kept = []
object_moves (s ∷ ss) sites kept =
    let count = passed s sites in
    section_moves s sites kept ∷ object_moves ss (drop count sites) (drop count kept)

abbrev pub passed_all : List Section → List Site → ℕ
passed_all [] sites = 0
passed_all (s ∷ ss) sites =
    let count = passed s sites in count + passed_all ss (drop count sites)

-- objects, one after another
abbrev pub walked : List Object → List Site → List ℕ → List Object
walked [] sites kept = []
walked (o ∷ os) sites kept =
    let count = passed_all o.sections sites in
    cut_object (object_moves o.sections sites kept) o
    ∷ walked os (drop count sites) (drop count kept)

-- the sites give each section calls that may be cut
abbrev pub AreWalked : List Object → List Site → List ℕ → Type 0
AreWalked [] sites kept = ⊤
AreWalked (o ∷ os) sites kept =
    let count = passed_all o.sections sites in
    AllCut o.sections (object_moves o.sections sites kept)
    × AreWalked os (drop count sites) (drop count kept)
