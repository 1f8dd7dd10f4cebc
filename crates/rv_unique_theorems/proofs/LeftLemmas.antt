-- What relaxation leaves of objects is one list, and keeps of them what the laws ask.

use Rattle.std.proofs.Common.{◌≡◌, ℕ, zero, suc, Bool, true, false, List, [], ◌∷◌, map, refl, sym, ap, subst, ◌∙◌}
use Rattle.std.specs.Prelude.{if◌then◌else◌}
use Rattle.std.specs.List.{AllByRecursion, slice_get}
use Rattle.rv_size_laws.proofs.ShorteningLemmas.{one_greatest_closed}
use Rattle.rv_object_laws.specs.declared.row.Row.{Row}
use Rattle.rv_object_laws.specs.Object.{Section, Object}
use Rattle.rv_link_laws.specs.Inputs.{goes_to_text}
use Rattle.rv_link_laws.specs.CallSites.{sites_of}
use Rattle.rv_link_laws.specs.Shortened.{Sizes, sizes_by, shortened_text, shortened_section, shortened_sections, shortened_row, shortened_from, shortened, Relaxes}
use Rattle.rv_link_laws.specs.Undefined.{is_loaded_at}
use Rattle.rv_unique_theorems.specs.Asked.{HavePlacedRows}

-- ---- one list

pub one_left : (relax : Bool) (os left other : List Object) → Relaxes relax os left → Relaxes relax os other → left ≡ other
one_left false os left other a b = a ∙ sym b
one_left true os left other a b = a.2 ∙ ap (λ kept. shortened kept os) (one_greatest_closed (sites_of os) a.0 b.0 a.1 b.1) ∙ sym b.2

-- ---- rows

loaded_same : (sizes : Sizes) (s : Section) → (shortened_section sizes s).loaded ≡ s.loaded
loaded_same sizes s = by (goes_to_text s)
  where
    by : (b : Bool) → (if b then shortened_text sizes s else s).loaded ≡ s.loaded
    by true = refl
    by false = refl

loaded_at : (sizes : ℕ → Sizes) (index : ℕ) (ss : List Section) (n : ℕ) → is_loaded_at (slice_get (shortened_sections sizes index ss) n) ≡ is_loaded_at (slice_get ss n)
loaded_at sizes index [] n = refl
loaded_at sizes index (s ∷ ss) zero = loaded_same (sizes index) s
loaded_at sizes index (s ∷ ss) (suc n) = loaded_at sizes (suc index) ss n

rows_stay : (sizes : ℕ → Sizes) (o : Object) (rs : List Row) → AllByRecursion (λ r. is_loaded_at (slice_get o.sections r.section) ≡ true) rs
    → AllByRecursion (λ r. is_loaded_at (slice_get (shortened_sections sizes 0 o.sections) r.section) ≡ true) (map (shortened_row sizes o) rs)
rows_stay sizes o [] h = tt
rows_stay sizes o (r ∷ rs) (one, h) = (loaded_at sizes 0 o.sections r.section ∙ one, rows_stay sizes o rs h)

placed_from : (sizes : ℕ → ℕ → Sizes) (file : ℕ) (os : List Object) → HavePlacedRows os → HavePlacedRows (shortened_from sizes file os)
placed_from sizes file [] h = tt
placed_from sizes file (o ∷ os) (one, h) = (rows_stay (sizes file) o o.rows one, placed_from sizes (suc file) os h)

pub left_placed : (relax : Bool) (os left : List Object) → Relaxes relax os left → HavePlacedRows os → HavePlacedRows left
left_placed false os left is h = subst HavePlacedRows (sym is) h
left_placed true os left is h = subst HavePlacedRows (sym is.2) (placed_from (sizes_by os is.0) 1 os h)
