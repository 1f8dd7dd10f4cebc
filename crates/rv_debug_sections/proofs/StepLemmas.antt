-- A step of a loop over merged sections.

use Rattle.std.proofs.Common.{◌≡◌, ◌∙◌, ℕ, ◌+◌, ◌<◌, List, [], ◌∷◌, ◌++◌, length, get_or, set, take, drop, map, Option, Some, None, refl, ap, sym, append_assoc, arith}
use Rattle.std.specs.Prelude.{option_map}
use Rattle.std.specs.Option.{option_and_then}
use Rattle.std.proofs.lemmas.List.{drop_more, drop-set-lt, get_or-map, length-map, map-append, map_push, take_more_set}
use Rattle.std.proofs.lemmas.Grind.{drop_more_same}
use Rattle.rv_debug_laws.specs.Carried.{Merged, MergedPart, Source, with_merged_part, with_parts}

-- what is done has one more, and what is left one less
pub mapped_more : {A B C D : Type 0} (view : A → D) (of : C → D) (first : B → C) (done : List A) (x : A) (all : List B) (i : ℕ) (d : B) →
    i < length all → view x ≡ of (first (get_or all i d)) →
    map view (done ++ x ∷ []) ++ map of (map first (drop (i + 1) all)) ≡ map view done ++ map of (map first (drop i all))
mapped_more view of first done x all i d h is =
    let rest = map of (map first (drop (i + 1) all)) in
    ap (λ l. l ++ rest) (map-append view done (x ∷ []))
    ∙ append_assoc (map view done) (view x ∷ []) rest
    ∙ (λ j. map view done ++ is j ∷ rest)
    ∙ ap (λ l. map view done ++ map of (map first l)) (sym (drop_more all i d h))

-- sections with their parts: the first of those that are left has grown
module _ (o : Source) where
  pub part_more : (p : MergedPart) (ps : List MergedPart) (m n : Merged) (ms done : List Merged) → with_merged_part o p m ≡ Some n →
      option_map (λ others. done ++ others) (with_parts o (p ∷ ps) (m ∷ ms))
      ≡ option_map (λ others. (done ++ n ∷ []) ++ others) (with_parts o ps ms)
  part_more p ps m n ms done is =
      ap (option_map (λ others. done ++ others))
      (ap (option_and_then (λ grown. option_map (λ others. grown ∷ others) (with_parts o ps ms))) is)
      ∙ joined (with_parts o ps ms)
    where
      joined : (r : Option (List Merged)) → option_map (λ others. done ++ others) (option_map (λ others. n ∷ others) r)
          ≡ option_map (λ others. (done ++ n ∷ []) ++ others) r
      joined None = refl
      joined (Some others) = ap Some (sym (append_assoc done (n ∷ []) others))

  pub part_none : (p : MergedPart) (ps : List MergedPart) (m : Merged) (ms done : List Merged) → with_merged_part o p m ≡ None →
      option_map (λ others. done ++ others) (with_parts o (p ∷ ps) (m ∷ ms)) ≡ None
  part_none p ps m ms done is =
      ap (option_map (λ others. done ++ others))
      (ap (option_and_then (λ grown. option_map (λ others. grown ∷ others) (with_parts o ps ms))) is)

-- equal lists have equal elements
same_at : {X Y Z : Type 0} (f : X → Z) (g : Y → Z) (xs : List X) (ys : List Y) (i : ℕ) (a : X) (b : Y) →
    map f xs ≡ map g ys → i < length xs → i < length ys → f (get_or xs i a) ≡ g (get_or ys i b)
same_at f g xs ys i a b same h k =
    sym (get_or-map f xs i a (g (get_or ys i b)) h)
    ∙ ap (λ l. get_or l i (g (get_or ys i b))) same
    ∙ get_or-map g ys i b (g (get_or ys i b)) k

-- and what is left of two lists, if it is equal, starts with equal elements
left_at : {X : Type 0} (xs ys : List X) (i : ℕ) (d : X) → drop i xs ≡ drop i ys → i < length xs → i < length ys →
    get_or xs i d ≡ get_or ys i d
left_at xs ys i d same h k = ap (λ l. get_or l 0 d) (sym (drop_more xs i d h) ∙ same ∙ drop_more ys i d k)

pub as_long : {X Y Z : Type 0} (f : X → Z) (g : Y → Z) (xs : List X) (ys : List Y) → map f xs ≡ map g ys → length xs ≡ length ys
as_long f g xs ys same = sym (length-map xs f) ∙ ap length same ∙ length-map ys g

-- the part of the section that is next is the one that it asks for
pub part_read : {A B C D : Type 0} (view : A → C) (of : D → C) (first : B → D) (parts : List A) (start now : List B)
    (i : ℕ) (p : A) (m : B) → map view parts ≡ map of (map first start) → length now ≡ length start →
    drop i now ≡ drop i start → i < length now → m ≡ get_or now i m → view (get_or parts i p) ≡ of (first m)
part_read view of first parts start now i p m asked long left h is =
    let inside : i < length start = omega (arith, h, long) in
    let many : length parts ≡ length start = as_long view of parts (map first start) asked ∙ length-map start first in
    same_at view of parts (map first start) i p (first m) asked (omega (arith, inside, many)) (omega (arith, inside, length-map start first))
    ∙ ap of (get_or-map first start i m (first m) inside)
    ∙ ap (λ x. of (first x)) (sym (left_at now start i m left h inside) ∙ sym is)

-- what is left after the section that is next is as at first
pub left_more : {X : Type 0} (now start : List X) (i : ℕ) (n : X) → drop i now ≡ drop i start →
    drop (i + 1) (set now i n) ≡ drop (i + 1) start
left_more now start i n left = drop-set-lt (i + 1) now i n (omega arith) ∙ drop_more_same now start i left

module _ {A B : Type 0} (o : Source) (view : A → MergedPart) (first : B → Merged) where
  parts_here : (done : List Merged) (parts : List A) (now : List B) (i : ℕ) (d : A) (m : B) → i < length parts → i < length now →
      m ≡ get_or now i m → option_map (λ others. done ++ others) (with_parts o (drop i (map view parts)) (map first (drop i now)))
      ≡ option_map (λ others. done ++ others)
      (with_parts o (view (get_or parts i d) ∷ drop (i + 1) (map view parts)) (first m ∷ map first (drop (i + 1) now)))
  parts_here done parts now i d m h k is =
      let p = view (get_or parts i d) in
      let ps = drop (i + 1) (map view parts) in
      let here : drop i (map view parts) ≡ p ∷ ps = drop_more (map view parts) i p (omega (arith, h, length-map parts view))
      ∙ ap (λ x. x ∷ ps) (get_or-map view parts i d p h) in
      let there : drop i now ≡ m ∷ drop (i + 1) now = drop_more now i m k ∙ ap (λ x. x ∷ drop (i + 1) now) (sym is) in
      ap (λ l. option_map (λ others. done ++ others) (with_parts o l (map first (drop i now)))) here
      ∙ ap (λ l. option_map (λ others. done ++ others) (with_parts o (p ∷ ps) (map first l))) there

  pub parts_more : (parts : List A) (now : List B) (i : ℕ) (d : A) (m n : B) → i < length parts → i < length now →
      m ≡ get_or now i m → with_merged_part o (view (get_or parts i d)) (first m) ≡ Some (first n) →
      option_map (λ others. map first (take i now) ++ others) (with_parts o (drop i (map view parts)) (map first (drop i now)))
      ≡ option_map (λ others. map first (take (i + 1) (set now i n)) ++ others)
      (with_parts o (drop (i + 1) (map view parts)) (map first (drop (i + 1) (set now i n))))
  parts_more parts now i d m n h k is grown =
      let done = map first (take i now) in
      let ps = drop (i + 1) (map view parts) in
      let ms = map first (drop (i + 1) now) in
      let more : map first (take (i + 1) (set now i n)) ≡ done ++ first n ∷ [] =
      ap (map first) (take_more_set now i n k) ∙ map_push first (take i now) n in
      let rest : drop (i + 1) (set now i n) ≡ drop (i + 1) now = drop-set-lt (i + 1) now i n (omega arith) in
      parts_here done parts now i d m h k is
      ∙ part_more o (view (get_or parts i d)) ps (first m) (first n) ms done grown
      ∙ ap (λ l. option_map (λ others. l ++ others) (with_parts o ps ms)) (sym more)
      ∙ ap (λ l. option_map (λ others. map first (take (i + 1) (set now i n)) ++ others) (with_parts o ps (map first l))) (sym rest)

  pub parts_none : (done : List Merged) (parts : List A) (now : List B) (i : ℕ) (d : A) (m : B) → i < length parts → i < length now →
      m ≡ get_or now i m → with_merged_part o (view (get_or parts i d)) (first m) ≡ None →
      option_map (λ others. done ++ others) (with_parts o (drop i (map view parts)) (map first (drop i now))) ≡ None
  parts_none done parts now i d m h k is none =
      parts_here done parts now i d m h k is
      ∙ part_none o (view (get_or parts i d)) (drop (i + 1) (map view parts)) (first m) (map first (drop (i + 1) now)) done none
