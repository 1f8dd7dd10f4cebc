-- A name that is in a table of strings is read again at its offset.

use Rattle.std.proofs.Common.{◌≡◌, ℕ, ◌+◌, ◌≤◌, ◌==◌, Bool, true, not, ◌||◌, List, [], ◌∷◌, ◌++◌, length, drop, flat_map, Some, refl, ap, sym, ◌∙◌, append_assoc, arith, bytes_eq, inl, inr, subst, append-nil}
use Rattle.std.specs.List.{list_any}
use Rattle.std.proofs.lemmas.Bool.{cases_Bool, eqb-true, cond-true, cond-false, and_parts, or_cases, or_left, or_right, not-true, false≢true}
use Rattle.std.proofs.lemmas.List.{drop-drop, drop_at, length-append}
use Rattle.std.proofs.lemmas.List.Folds.{list_any-append}
use Rattle.std.proofs.lemmas.Slice.Eq.{bytes_eq-Decides}
use Rattle.rv_elf_laws.specs.Sections.{before_zero, string_at}
use Rattle.rv_object_laws.specs.Valid.{is_string}
use Rattle.rv_object_file_laws.specs.Parts.{name_at}
use Rattle.rv_object_file_laws.specs.Written.{unseen, strings_of, table_of, offset_in, name_offset}

abbrev pub with_end : List ℕ → List ℕ
with_end name = name ++ 0 ∷ []

-- a name without a zero byte ends before the first one
pub before_zero-name : (name rest : List ℕ) → is_string name ≡ true → before_zero (name ++ 0 ∷ rest) ≡ Some name
before_zero-name [] rest fine = refl
before_zero-name (byte ∷ name) rest fine =
    let both = and_parts (not (byte == 0)) (is_string name) fine in
    let more = before_zero-name name rest both.1 in
    cond-false (byte == 0) _ _ (not-true (byte == 0) both.0) ∙ rw more refl

-- one of the strings is the name
abbrev pub is_among : List ℕ → List (List ℕ) → Bool
is_among name strings = list_any (λ s. bytes_eq s name) strings

pub string_back : (strings : List (List ℕ)) (name rest : List ℕ) → is_string name ≡ true → is_among name strings ≡ true →
    string_at (flat_map with_end strings ++ rest) (offset_in strings name) ≡ Some name
string_back [] name rest fine among = cc
string_back (s ∷ strings) name rest fine among =
    let tail : List ℕ = flat_map with_end strings ++ rest in
    let whole : flat_map with_end (s ∷ strings) ++ rest ≡ s ++ (0 ∷ tail) =
    append_assoc (s ++ 0 ∷ []) (flat_map with_end strings) rest ∙ append_assoc s (0 ∷ []) tail in
    elim (cases_Bool (bytes_eq s name)) [
      | inl e ↦
          let same = (bytes_eq-Decides s name).0 e in
          (λ i. string_at (whole i) (cond-true (bytes_eq s name) 0 (length s + 1 + offset_in strings name) e i))
          ∙ ap (λ t. before_zero (t ++ (0 ∷ tail))) same ∙ before_zero-name name tail fine
      | inr e ↦
          let later : is_among name strings ≡ true = ap (λ b. b || is_among name strings) (sym e) ∙ among in
          let at = offset_in strings name in
          let behind : drop (length s + 1) (s ++ (0 ∷ tail)) ≡ tail = sym (drop-drop 1 (length s) (s ++ (0 ∷ tail))) ∙ ap (drop 1) (drop_at s (0 ∷ tail) (length s) refl) in
          (λ i. string_at (whole i) (cond-false (bytes_eq s name) 0 (length s + 1 + at) e i))
          ∙ ap before_zero (sym (drop-drop at (length s + 1) (s ++ (0 ∷ tail))) ∙ ap (drop at) behind)
          ∙ string_back strings name rest fine later
    ]

-- no offset is past the table
pub offset_within : (strings : List (List ℕ)) (name : List ℕ) → offset_in strings name ≤ length (flat_map with_end strings)
offset_within [] name = omega arith
offset_within (s ∷ strings) name =
    let rest = offset_within strings name in
    let size : length (flat_map with_end (s ∷ strings)) ≡ length s + 1 + length (flat_map with_end strings) =
    length-append (s ++ 0 ∷ []) (flat_map with_end strings) ∙ ap (λ n. n + length (flat_map with_end strings)) (length-append s (0 ∷ [])) in
    elim (cases_Bool (bytes_eq s name)) [
      | inl e ↦ rw (cond-true (bytes_eq s name) 0 (length s + 1 + offset_in strings name) e) (omega arith)
      | inr e ↦ rw (cond-false (bytes_eq s name) 0 (length s + 1 + offset_in strings name) e) (omega (arith, rest, size))
    ]

eq_other : (a b : List ℕ) → bytes_eq a b ≡ true → bytes_eq b a ≡ true
eq_other a b h = (bytes_eq-Decides b a).1 (sym ((bytes_eq-Decides a b).0 h))

any_other : (name : List ℕ) (strings : List (List ℕ)) → list_any (bytes_eq name) strings ≡ true → is_among name strings ≡ true
any_other name [] h = h
any_other name (s ∷ strings) h = elim (or_cases _ _ h) [
  | inl e ↦ or_left (bytes_eq s name) (is_among name strings) (eq_other name s e)
  | inr e ↦ or_right (bytes_eq s name) (is_among name strings) (any_other name strings e)
]

-- a name is among the strings before, or it is kept
pub unseen_among : (seen names : List (List ℕ)) (name : List ℕ) → is_among name names ≡ true →
    (is_among name seen || is_among name (unseen seen names)) ≡ true
unseen_among seen [] name h = absurd (false≢true h)
unseen_among seen (n ∷ names) name h = elim (cases_Bool (list_any (bytes_eq n) seen)) [
  | inl e ↦ rw (cond-true (list_any (bytes_eq n) seen) (unseen seen names) (n ∷ unseen (seen ++ n ∷ []) names) e) (elim (or_cases (bytes_eq n name) (is_among name names) h) [
    | inl here ↦ or_left (is_among name seen) (is_among name (unseen seen names))
        (subst (λ t. is_among t seen ≡ true) ((bytes_eq-Decides n name).0 here) (any_other n seen e))
    | inr there ↦ unseen_among seen names name there
  ])
  | inr e ↦
      let kept : List (List ℕ) = unseen (seen ++ n ∷ []) names in
      rw (cond-false (list_any (bytes_eq n) seen) (unseen seen names) (n ∷ unseen (seen ++ n ∷ []) names) e) (elim (or_cases (bytes_eq n name) (is_among name names) h) [
        | inl here ↦ or_right (is_among name seen) (is_among name (n ∷ kept)) (or_left (bytes_eq n name) (is_among name kept) here)
        | inr there ↦ grind (arith, list_any-append (λ s. bytes_eq s name) seen (n ∷ []), unseen_among (seen ++ n ∷ []) names name there)
      ])
]

pub strings_among : (names : List (List ℕ)) (name : List ℕ) → is_among name names ≡ true → is_among name (strings_of names) ≡ true
strings_among names name h =
    elim (or_cases _ _ (unseen_among [] ([] ∷ names) name (or_right (bytes_eq [] name) _ h))) [
      | inl e ↦ absurd (false≢true e)
      | inr e ↦ e
    ]

-- the empty string comes first: no other name has offset 0
zero_offset : (names : List (List ℕ)) (name : List ℕ) → name_offset names name ≡ 0 → [] ≡ name
zero_offset names name zero = elim (cases_Bool (bytes_eq [] name)) [
  | inl e ↦ (bytes_eq-Decides [] name).0 e
  | inr e ↦
      let later : ℕ = offset_in (unseen ([] ∷ []) names) name in
      let above : name_offset names name ≡ 1 + later = cond-false (bytes_eq [] name) 0 (1 + later) e in
      absurd (omega (arith, above, zero))
]

-- the name at the offset of a name of the table
pub name_back : (names : List (List ℕ)) (name : List ℕ) → is_string name ≡ true → is_among name names ≡ true →
    name_at (table_of names) (name_offset names name) ≡ Some name
name_back names name fine among =
    let at : ℕ = name_offset names name in
    let read : string_at (table_of names) at ≡ Some name =
    ap (λ t. string_at t at) (sym (append-nil (table_of names))) ∙ string_back (strings_of names) name [] fine (strings_among names name among) in
    elim (cases_Bool (at == 0)) [
      | inl e ↦ cond-true (at == 0) (Some []) (string_at (table_of names) at) e ∙ ap (λ n. Some n) (zero_offset names name (eqb-true at 0 e))
      | inr e ↦ cond-false (at == 0) (Some []) (string_at (table_of names) at) e ∙ read
    ]

pub name_offset_within : (names : List (List ℕ)) (name : List ℕ) → name_offset names name ≤ length (table_of names)
name_offset_within names name = offset_within (strings_of names) name
