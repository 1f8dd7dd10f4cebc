-- A text is one map's alone.

use Rattle.std.proofs.Common.{◌≡◌, ℕ, ◌<◌, List, [], ◌∷◌, ◌++◌, length, map, Option, Some, None, IsTrue, codes, refl, sym, ap, subst, ◌∙◌, append_assoc, arith}
use Rattle.std.specs.List.{flat_map, AllByRecursion}
use Rattle.std.proofs.lemmas.List.{append-nil, length-append, map-append, nil_from_length}
use Rattle.std.proofs.lemmas.Option.{some_pair_parts, none-some}
use Rattle.std.proofs.lemmas.List.Concat.{flat_map-append}
use Rattle.rv_list_laws.proofs.EachLemmas.{each_more}
use Rattle.rv_map_laws.specs.declared.map.Region.{Region}
use Rattle.rv_map_laws.specs.declared.map.Row.{Row}
use Rattle.rv_map_laws.specs.declared.map.SectionId.{SectionId}
use Rattle.rv_map.specs.declared.map.Global.{Global as DeclaredGlobal}
use Rattle.rv_map_laws.specs.Map.{Map, Global}
use Rattle.rv_map.specs.Views.{global_of}
use Rattle.rv_map_laws.specs.Name.{is_name}
use Rattle.rv_map_laws.specs.Limits.{IsNumber, IsRegion, IsGlobal, IsDrop, IsRow, IsMap}
use Rattle.rv_map_laws.specs.Text.{line_text, gap_line, global_line, drop_line, row_line, head_lines, map_text}
use Rattle.rv_map.specs.Reading.{behind, region_at, global_at, drop_at, row_at, head_at}
use Rattle.rv_map.proofs.StepsLemmas.{texts}
use Rattle.rv_map.proofs.LinesLemmas.{gap_again, global_again, drop_again, row_again, head_again, only_head}

-- what a reader finds of one kind: lines up to the first other
pub record Kind {A : Type 0} (line : A → List (List ℕ)) (at : List ℕ → Option (A × List ℕ)) (Is : A → Type 0) (bytes : List ℕ) (xs : List A) (rest : List ℕ) : Type 0 where
  pub read : bytes ≡ texts line xs ++ rest
  pub end : at rest ≡ None
  pub are : AllByRecursion Is xs

-- where an item is read at the front of its line, lines up to the first other are of one list alone
module _ {A : Type 0} (line : A → List (List ℕ)) (at : List ℕ → Option (A × List ℕ)) (Is : A → Type 0) (again : (x : A) (rest : List ℕ) → Is x → at (line_text (line x) ++ rest) ≡ Some (x, rest)) where
  front_again : (x : A) (xs : List A) (rest : List ℕ) → Is x → at (texts line (x ∷ xs) ++ rest) ≡ Some (x, texts line xs ++ rest)
  front_again x xs rest is = ap at (append_assoc (line_text (line x)) (texts line xs) rest) ∙ again x (texts line xs ++ rest) is

  same_items : (xs ys : List A) (r s : List ℕ) → AllByRecursion Is xs → AllByRecursion Is ys → texts line xs ++ r ≡ texts line ys ++ s → at r ≡ None → at s ≡ None → (xs ≡ ys) × (r ≡ s)
  same_items [] [] r s p q e end last = (refl, e)
  same_items [] (y ∷ ys) r s p q e end last = let h = front_again y ys s q.0 in absurd (let f = ap at e in cc)
  same_items (x ∷ xs) [] r s p q e end last = let h = front_again x xs r p.0 in absurd (let f = ap at e in cc)
  same_items (x ∷ xs) (y ∷ ys) r s p q e end last =
      let h = front_again x xs r p.0 in
      let k = front_again y ys s q.0 in
      let both = some_pair_parts x y (texts line xs ++ r) (texts line ys ++ s) (sym h ∙ ap at e ∙ k) in
      let tail = same_items xs ys r s p.1 q.1 both.1 end last in
      (ap (λ z. z ∷ xs) both.0 ∙ ap (λ zs. y ∷ zs) tail.0, tail.1)

  same_kind : (xs ys : List A) (b c r s : List ℕ) → b ≡ c → Kind line at Is b xs r → Kind line at Is c ys s → (xs ≡ ys) × (r ≡ s)
  same_kind xs ys b c r s e k h = same_items xs ys r s k.are h.are (sym k.read ∙ e ∙ h.read) k.end h.end

abbrev gap_at : List ℕ → Option (Region × List ℕ)
gap_at bytes = region_at (codes "gap ") bytes

-- the lines after those of a kind are of another
no_gap_at_global : (g : Global) (rest : List ℕ) → gap_at (line_text (global_line g) ++ rest) ≡ None
unfolding region_at line_text behind
no_gap_at_global g rest = refl

no_gap_at_drop : (d : SectionId) (rest : List ℕ) → gap_at (line_text (drop_line d) ++ rest) ≡ None
unfolding region_at line_text behind
no_gap_at_drop d rest = refl

no_gap_at_row : (r : Row) (rest : List ℕ) → gap_at (line_text (row_line r) ++ rest) ≡ None
unfolding region_at line_text behind
no_gap_at_row r rest = refl

no_global_at_drop : (d : SectionId) (rest : List ℕ) → global_at (line_text (drop_line d) ++ rest) ≡ None
unfolding global_at line_text behind
no_global_at_drop d rest = refl

no_global_at_row : (r : Row) (rest : List ℕ) → global_at (line_text (row_line r) ++ rest) ≡ None
unfolding global_at line_text behind
no_global_at_row r rest = refl

no_drop_at_row : (r : Row) (rest : List ℕ) → drop_at (line_text (row_line r) ++ rest) ≡ None
unfolding drop_at line_text behind
no_drop_at_row r rest = refl

no_gap_at_end : gap_at [] ≡ None
unfolding region_at behind
no_gap_at_end = refl

no_global_at_end : global_at [] ≡ None
unfolding global_at behind
no_global_at_end = refl

no_drop_at_end : drop_at [] ≡ None
unfolding drop_at behind
no_drop_at_end = refl

no_row_at_end : row_at [] ≡ None
unfolding row_at behind
no_row_at_end = refl

-- nothing is read before lines that are of another kind, if nothing is read after them
none_before : {A B : Type 0} (at : List ℕ → Option B) (line : A → List (List ℕ)) → ((x : A) (rest : List ℕ) → at (line_text (line x) ++ rest) ≡ None)
    → (xs : List A) (rest : List ℕ) → at rest ≡ None → at (texts line xs ++ rest) ≡ None
none_before at line other [] rest end = end
none_before at line other (x ∷ xs) rest end = ap at (append_assoc (line_text (line x)) (texts line xs) rest) ∙ other x (texts line xs ++ rest)

-- what follows the lines of a kind
abbrev after_drops : Map → List ℕ
after_drops m = texts row_line m.rows ++ []

abbrev after_globals : Map → List ℕ
after_globals m = texts drop_line m.drops ++ after_drops m

abbrev after_gaps : Map → List ℕ
after_gaps m = texts global_line m.globals ++ after_globals m

abbrev after_head : Map → List ℕ
after_head m = texts gap_line m.gaps ++ after_gaps m

no_drop_after : (m : Map) → drop_at (after_drops m) ≡ None
no_drop_after m = none_before drop_at row_line no_drop_at_row m.rows [] no_drop_at_end

no_global_after : (m : Map) → global_at (after_globals m) ≡ None
no_global_after m = none_before global_at drop_line no_global_at_drop m.drops (after_drops m) (none_before global_at row_line no_global_at_row m.rows [] no_global_at_end)

no_gap_after : (m : Map) → gap_at (after_gaps m) ≡ None
no_gap_after m =
    none_before gap_at global_line no_gap_at_global m.globals (after_globals m)
    (none_before gap_at drop_line no_gap_at_drop m.drops (after_drops m) (none_before gap_at row_line no_gap_at_row m.rows [] no_gap_at_end))

-- the text of a map, kind by kind
map_text_by : (m : Map) → map_text m ≡ flat_map line_text (head_lines m) ++ after_head m
map_text_by m = simp (flat_map-append, append_assoc, append-nil) refl

-- what a reader finds from left to right
pub record Found (bytes : List ℕ) (head : Map) (gaps : List Region) (globals : List Global) (drops : List SectionId) (rows : List Row) (rest : List ℕ) : Type 0 where
  pub behind_head : List ℕ
  pub behind_gaps : List ℕ
  pub behind_globals : List ℕ
  pub behind_drops : List ℕ
  pub head_read : head_at bytes ≡ Some (head, behind_head)
  pub gaps_read : Kind gap_line gap_at IsRegion behind_head gaps behind_gaps
  pub globals_read : Kind global_line global_at IsGlobal behind_gaps globals behind_globals
  pub drops_read : Kind drop_line drop_at IsDrop behind_globals drops behind_drops
  pub rows_read : Kind row_line row_at IsRow behind_drops rows rest

abbrev pub joined : Map → List Region → List Global → List SectionId → List Row → Map
joined head gaps globals drops rows = record head { gaps = gaps; globals = globals; drops = drops; rows = rows }

-- a map's own text is found so
found_again : (m : Map) → IsMap m → Found (map_text m) (only_head m) m.gaps m.globals m.drops m.rows []
found_again m is =
    record {
      behind_head = after_head m;
      behind_gaps = after_gaps m;
      behind_globals = after_globals m;
      behind_drops = after_drops m;
      head_read = ap head_at (map_text_by m) ∙ head_again m (after_head m) is;
      gaps_read = record { read = refl; end = no_gap_after m; are = is.gaps };
      globals_read = record { read = refl; end = no_global_after m; are = is.globals };
      drops_read = record { read = refl; end = no_drop_after m; are = is.drops };
      rows_read = record { read = refl; end = no_row_at_end; are = is.rows };
    }

-- in the text of a map it is that map, and nothing is left
found_is : (m : Map) → IsMap m → (head : Map) (gaps : List Region) (globals : List Global) (drops : List SectionId) (rows : List Row) (rest : List ℕ)
    → Found (map_text m) head gaps globals drops rows rest → (joined head gaps globals drops rows ≡ m) × (rest ≡ [])
unfolding found_again
found_is m is head gaps globals drops rows rest f =
    let own = found_again m is in
    let zeroth = some_pair_parts (only_head m) head (after_head m) f.behind_head (sym own.head_read ∙ f.head_read) in
    let first = same_kind gap_line gap_at IsRegion gap_again m.gaps gaps (after_head m) f.behind_head (after_gaps m) f.behind_gaps zeroth.1 own.gaps_read f.gaps_read in
    let second =
    same_kind global_line global_at IsGlobal global_again m.globals globals (after_gaps m) f.behind_gaps (after_globals m) f.behind_globals first.1 own.globals_read f.globals_read in
    let third = same_kind drop_line drop_at IsDrop drop_again m.drops drops (after_globals m) f.behind_globals (after_drops m) f.behind_drops second.1 own.drops_read f.drops_read in
    let fourth = same_kind row_line row_at IsRow row_again m.rows rows (after_drops m) f.behind_drops [] rest third.1 own.rows_read f.rows_read in
    (sym (λ i. joined (zeroth.0 i) (first.0 i) (second.0 i) (third.0 i) (fourth.0 i)), sym fourth.1)

pub one_text : (m n : Map) → IsMap m → IsMap n → map_text m ≡ map_text n → m ≡ n
one_text m n p q e =
    let found = subst (λ (text : List ℕ). Found text (only_head m) m.gaps m.globals m.drops m.rows []) e (found_again m p) in
    (found_is n q (only_head m) m.gaps m.globals m.drops m.rows [] found).0

-- what is found in the bytes that are a map's text
pub found_in : (m : Map) → IsMap m → (head : Map) (gaps : List Region) (globals : List Global) (drops : List SectionId) (rows : List Row) (bytes rest : List ℕ)
    → bytes ≡ map_text m → Found bytes head gaps globals drops rows rest → (joined head gaps globals drops rows ≡ m) × (rest ≡ [])
found_in m is head gaps globals drops rows bytes rest e f =
    found_is m is head gaps globals drops rows rest (subst (λ (text : List ℕ). Found text head gaps globals drops rows rest) e f)

pub has_head : (m : Map) → IsMap m → (bytes : List ℕ) → bytes ≡ map_text m → head_at bytes ≡ None → ⊥
has_head m is bytes e none = none-some _ (sym none ∙ ap head_at e ∙ (found_again m is).head_read)

same_head : (head : Map) (gaps : List Region) (globals : List Global) (drops : List SectionId) (rows : List Row) → head_lines (joined head gaps globals drops rows) ≡ head_lines head
unfolding head_lines
same_head head gaps globals drops rows = refl

-- the parts that were read make up the text
pub whole_text : (head : Map) (gaps : List Region) (globals : List Global) (drops : List SectionId) (rows : List Row) (bytes r0 r1 r2 r3 r4 : List ℕ)
    → bytes ≡ flat_map line_text (head_lines head) ++ r0 → r0 ≡ texts gap_line gaps ++ r1 → r1 ≡ texts global_line globals ++ r2 → r2 ≡ texts drop_line drops ++ r3
    → r3 ≡ texts row_line rows ++ r4 → length r4 ≡ 0 → bytes ≡ map_text (joined head gaps globals drops rows)
whole_text head gaps globals drops rows bytes r0 r1 r2 r3 r4 e0 e1 e2 e3 e4 none =
    let whole = joined head gaps globals drops rows in
    e0
    ∙ ap (λ x. flat_map line_text (head_lines head) ++ x)
    (e1 ∙ ap (λ x. texts gap_line gaps ++ x)
    (e2 ∙ ap (λ x. texts global_line globals ++ x)
    (e3 ∙ ap (λ x. texts drop_line drops ++ x)
    (e4 ∙ ap (λ x. texts row_line rows ++ x) (nil_from_length r4 none)))))
    ∙ ap (λ lines. flat_map line_text lines ++ after_head whole) (sym (same_head head gaps globals drops rows))
    ∙ sym (map_text_by whole)

-- ---- the loops

-- one item more
pub items_more : {A : Type 0} (line : A → List (List ℕ)) (bytes : List ℕ) (xs : List A) (x : A) (rest after : List ℕ)
    → bytes ≡ texts line xs ++ rest → rest ≡ line_text (line x) ++ after → bytes ≡ texts line (xs ++ x ∷ []) ++ after
items_more line bytes xs x rest after so_far one = simp (so_far, one, map-append, flat_map-append, append_assoc) refl

line_some : (words : List (List ℕ)) → 0 < length (line_text words)
unfolding line_text
line_some [] = omega arith
line_some (word ∷ []) = omega (arith, length-append word (10 ∷ []))
line_some (word ∷ next ∷ words) = omega (arith, length-append word (32 ∷ line_text (next ∷ words)))

pub line_shorter : (words : List (List ℕ)) (rest after : List ℕ) → rest ≡ line_text words ++ after → length after < length rest
line_shorter words rest after e = omega (arith, line_some words, ap length e, length-append (line_text words) after)

-- one global more
pub globals_more : (bytes : List ℕ) (xs : List DeclaredGlobal) (x : DeclaredGlobal) (name rest after : List ℕ)
    → bytes ≡ texts global_line (map global_of xs) ++ rest → rest ≡ line_text (global_line (record { name = name; address = x.address })) ++ after → x.name.items ≡ name
    → bytes ≡ texts global_line (map global_of (xs ++ x ∷ [])) ++ after
globals_more bytes xs x name rest after so_far one is =
    items_more global_line bytes (map global_of xs) (global_of x) rest after so_far (one ∙ ap (λ n. line_text (global_line (record { name = n; address = x.address })) ++ after) (sym is))
    ∙ ap (λ gs. texts global_line gs ++ after) (sym (map-append global_of xs (x ∷ [])))

pub globals_fit : (xs : List DeclaredGlobal) (x : DeclaredGlobal) (name : List ℕ) → AllByRecursion IsGlobal (map global_of xs) → IsTrue (is_name name) → IsNumber x.address → x.name.items ≡ name
    → AllByRecursion IsGlobal (map global_of (xs ++ x ∷ []))
globals_fit xs x name all named fits is =
    subst (λ (gs : List Global). AllByRecursion IsGlobal gs) (sym (map-append global_of xs (x ∷ [])))
    (each_more IsGlobal (map global_of xs) (global_of x) all (subst (λ (n : List ℕ). IsTrue (is_name n)) (sym is) named, fits))
