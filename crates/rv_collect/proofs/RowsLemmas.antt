-- Marks of sections: none, and one more.

use Rattle.std.proofs.Common.{◌≡◌, ◌<◌, ℕ, zero, suc, Bool, true, false, ◌&&◌, ◌||◌, List, [], ◌∷◌, length, map, replicate, set, get_or, refl, ap, sym, ◌∙◌, arith}
use Rattle.std.specs.Global.{Vec}
use Rattle.std.specs.Prelude.{◌==◌, slice_index_or}
use Rattle.std.proofs.lemmas.Bool.{ne_eqb}
use Rattle.std.proofs.lemmas.List.{length-replicate, length-map, map-set, get_or-map}
use Rattle.rv_list_laws.proofs.NumbersLemmas.{eq_suc}
use Rattle.rv_object_types.specs.declared.object.Object.{Object as DeclaredObject}
use Rattle.rv_object_types.specs.Sections.{section_of}
use Rattle.rv_object_types.specs.View.{object_of}
use Rattle.rv_collect.specs.Drops.{mark_in}

abbrev pub row_in : List (List Bool) → ℕ → List Bool
row_in rows file = slice_index_or rows file []

-- ---- none

abbrev pub empty_row : DeclaredObject → List Bool
empty_row o = replicate (length o.sections.items) false

none_in : (n i : ℕ) → mark_in (replicate n false) i ≡ false
none_in zero i = refl
none_in (suc n) zero = refl
none_in (suc n) (suc i) = none_in n i

pub none_marked : (ds : List DeclaredObject) (file i : ℕ) → mark_in (row_in (map empty_row ds) file) i ≡ false
none_marked [] file i = refl
none_marked (d ∷ ds) zero i = none_in (length d.sections.items) i
none_marked (d ∷ ds) (suc file) i = none_marked ds file i

pub none_like : (ds : List DeclaredObject) → map length (map empty_row ds) ≡ map (λ o. length o.sections) (map object_of ds)
none_like [] = refl
none_like (d ∷ ds) =
    ap (λ n. n ∷ map length (map empty_row ds)) (length-replicate {A = Bool} (length d.sections.items) false ∙ sym (length-map d.sections.items section_of))
    ∙ ap (λ l. length (object_of d).sections ∷ l) (none_like ds)

-- ---- one more

apart_left : (n : ℕ) → (suc n == zero) ≡ false
apart_left n = ne_eqb (suc n) zero (λ e. omega (arith, e))

pub apart_right : (n : ℕ) → (zero == suc n) ≡ false
apart_right n = ne_eqb zero (suc n) (λ e. omega (arith, e))

one_in : (marks : List Bool) (index i : ℕ) → index < length marks → mark_in (set marks index true) i ≡ ((i == index) || mark_in marks i)
one_in [] index i low = absurd (omega (arith, low))
one_in (m ∷ ms) zero zero low = refl
one_in (m ∷ ms) zero (suc i) low = sym (ap (λ b. b || mark_in ms i) (apart_left i))
one_in (m ∷ ms) (suc index) zero low = sym (ap (λ b. b || m) (apart_right index))
one_in (m ∷ ms) (suc index) (suc i) low = one_in ms index i (omega (arith, low)) ∙ sym (ap (λ b. b || mark_in ms i) (eq_suc i index))

-- the marks with one more, by its file and its index there
abbrev pub with_mark : List (List Bool) → (file index : ℕ) → List (List Bool)
with_mark rows file index = set rows file (set (row_in rows file) index true)

pub one_marked : (rows : List (List Bool)) (file index f i : ℕ) → index < length (row_in rows file)
    → mark_in (row_in (with_mark rows file index) f) i ≡ (((f == file) && (i == index)) || mark_in (row_in rows f) i)
one_marked [] file index f i low = absurd (omega (arith, low))
one_marked (r ∷ rs) zero index zero i low = one_in r index i low
one_marked (r ∷ rs) zero index (suc f) i low = sym (ap (λ b. (b && (i == index)) || mark_in (row_in rs f) i) (apart_left f))
one_marked (r ∷ rs) (suc file) index zero i low = sym (ap (λ b. (b && (i == index)) || mark_in r i) (apart_right file))
one_marked (r ∷ rs) (suc file) index (suc f) i low =
    one_marked rs file index f i low ∙ sym (ap (λ b. (b && (i == index)) || mark_in (row_in rs f) i) (eq_suc f file))

same_long : (marks : List Bool) (index : ℕ) → length (set marks index true) ≡ length marks
same_long [] index = refl
same_long (m ∷ ms) zero = refl
same_long (m ∷ ms) (suc index) = ap suc (same_long ms index)

pub one_like : (rows : List (List Bool)) (file index : ℕ) → map length (with_mark rows file index) ≡ map length rows
one_like [] file index = refl
one_like (r ∷ rs) zero index = ap (λ n. n ∷ map length rs) (same_long r index)
one_like (r ∷ rs) (suc file) index = ap (λ l. length r ∷ l) (one_like rs file index)

-- ---- as the code has them

abbrev pub rows : List (Vec Bool) → List (List Bool)
rows files = map (λ (r : Vec Bool). r.items) files

row_past : (rs : List (List Bool)) (file index : ℕ) → index < length (row_in rs file) → file < length rs
row_past [] file index low = absurd (omega (arith, low))
row_past (r ∷ rs) zero index low = omega arith
row_past (r ∷ rs) (suc file) index low = let rest = row_past rs file index low in omega (arith, rest)

pub file_within : (files : List (Vec Bool)) (file index : ℕ) → index < length (row_in (rows files) file) → file < length files
file_within files file index low =
    let inside = row_past (rows files) file index low in
    let long : length (rows files) ≡ length files = length-map files (λ (r : Vec Bool). r.items) in
    omega (arith, inside, long)

-- a vector of a file, in which one mark is set
pub rows_set : (files : List (Vec Bool)) (file index : ℕ) (r new : Vec Bool) → index < length (row_in (rows files) file) → r ≡ get_or files file r → new.items ≡ set r.items index true
    → rows (set files file new) ≡ with_mark (rows files) file index
rows_set files file index r new low is made =
    let own : row_in (rows files) file ≡ r.items =
    get_or-map (λ (q : Vec Bool). q.items) files file r [] (file_within files file index low) ∙ ap (λ (q : Vec Bool). q.items) (sym is) in
    map-set (λ (q : Vec Bool). q.items) files file new ∙ ap (set (rows files) file) (made ∙ sym (ap (λ l. set l index true) own))
