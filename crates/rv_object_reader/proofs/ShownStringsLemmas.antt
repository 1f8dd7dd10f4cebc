-- Where the last string of a table ends, and which strings a map can show.

use Rattle.std.proofs.Common.{◌≡◌, ℕ, zero, suc, ◌+◌, ◌-◌, ◌<◌, ◌≤◌, ◌^◌, Bool, true, false, not, List, [], ◌∷◌, ◌++◌, length, drop, get_or, Some, None, refl, ap, sym, ◌∙◌, arith}
use Rattle.std.specs.Prelude.{nat_lt, nat_le, ◌==◌, ◌&&◌, Option, option_map, slice_index, if◌then◌else◌}
use Rattle.std.specs.List.{list_all}
use Rattle.std.proofs.lemmas.Bool.{eqb-true, leb-true, and_parts, cond-true, cond-false}
use Rattle.std.proofs.lemmas.Bool.Decides.{nat_tests}
use Rattle.std.proofs.lemmas.List.{length-drop, get_or-drop, append_assoc, append-nil}
use Rattle.memchr.specs.Find.{IsFirst, Passes, places, places_from}
use Rattle.rv_list_laws.proofs.NumbersLemmas.{lt_true}
use Rattle.rv_map_laws.specs.Name.{is_name_byte}
use Rattle.rv_elf_laws.specs.declared.section_header.SectionHeader.{SectionHeader}
use Rattle.rv_elf_laws.specs.Sections.{before_zero, string_at, indexed_contents, names_section}
use Rattle.rv_object_file_laws.specs.FirstFault.{is_none}
use Rattle.rv_object_file_laws.specs.Parts.{name_at, name_of}
use Rattle.rv_object_reader.specs.Names.{strings_end, names_end, is_unshown, can_show}
use Rattle.rv_object_reader.proofs.PositionsLemmas.{next_passes, next_fails, all_found}

none_map : (byte : ℕ) (o : Option (List ℕ)) → is_none (option_map (λ name. byte ∷ name) o) ≡ is_none o
none_map byte None = refl
none_map byte (Some name) = refl

-- where strings end, one byte further
abbrev further : ℕ → ℕ → ℕ
further n byte = if n == 0 then (if byte == 0 then 1 else 0) else suc n

further_zero : (n byte : ℕ) → byte ≡ 0 → false ≡ (further n byte == 0)
further_zero n byte e = grind (arith, nat_tests)

further_other : (n byte : ℕ) → (byte == 0) ≡ false → (n == 0) ≡ (further n byte == 0)
further_other n byte e = grind (arith, nat_tests)

-- a string ends just where the table has a zero byte
ends_at : (bytes : List ℕ) → is_none (before_zero bytes) ≡ (strings_end bytes == 0)
ends_at [] = refl
ends_at (byte ∷ bytes) = go (byte == 0) refl (ends_at bytes)
  where
    go : (b : Bool) → (byte == 0) ≡ b → is_none (before_zero bytes) ≡ (strings_end bytes == 0) → is_none (if byte == 0 then Some [] else option_map (λ name. byte ∷ name) (before_zero bytes)) ≡ (further (strings_end bytes) byte == 0)
    go true e same = ap is_none (cond-true (byte == 0) _ _ e) ∙ further_zero (strings_end bytes) byte (eqb-true byte 0 e)
    go false e same = ap is_none (cond-false (byte == 0) _ _ e) ∙ none_map byte (before_zero bytes) ∙ same ∙ further_other (strings_end bytes) byte e

below_zero : (n : ℕ) → (n == 0) ≡ nat_le n 0
below_zero n = grind (arith, nat_tests)

one_less : (n byte o : ℕ) → nat_le n o ≡ nat_le (further n byte) (suc o)
one_less n byte o = grind (arith, nat_tests)

none_below : (o : ℕ) → true ≡ nat_le 0 o
none_below o = grind (arith, nat_tests)

pub no_string : (bytes : List ℕ) (offset : ℕ) → is_none (string_at bytes offset) ≡ nat_le (strings_end bytes) offset
no_string bytes zero = ends_at bytes ∙ below_zero (strings_end bytes)
no_string [] (suc o) = none_below (suc o)
no_string (byte ∷ bytes) (suc o) = no_string bytes o ∙ one_less (strings_end bytes) byte o

further_end : (n byte : ℕ) → n ≡ 0 → ((byte == 0) ≡ true → ⊥) → further n byte ≡ 0
further_end n byte e other = go (byte == 0) refl
  where
    go : (b : Bool) → (byte == 0) ≡ b → further n byte ≡ 0
    go true z = absurd (other z)
    go false z = grind (arith, nat_tests)

further_more : (n byte k : ℕ) → n ≡ suc k → further n byte ≡ suc (suc k)
further_more n byte k e = grind (arith, nat_tests)

further_here : (n byte : ℕ) → n ≡ 0 → (byte == 0) ≡ true → further n byte ≡ 1
further_here n byte e z = grind (arith, nat_tests)

pub none_end : (bytes : List ℕ) → ((k : ℕ) → 0 ≤ k → k < length bytes → (get_or bytes k 0 == 0) ≡ true → ⊥) → strings_end bytes ≡ 0
none_end [] h = refl
none_end (byte ∷ bytes) h =
    further_end (strings_end bytes) byte (none_end bytes (λ k low high is. h (suc k) (omega arith) (omega arith) is)) (λ z. h 0 (omega arith) (omega arith) z)

pub last_end : (bytes : List ℕ) (k : ℕ) → k < length bytes → (get_or bytes k 0 == 0) ≡ true → ((j : ℕ) → k + 1 ≤ j → j < length bytes → (get_or bytes j 0 == 0) ≡ true → ⊥) → strings_end bytes ≡ k + 1
last_end [] k low is h = absurd (omega arith)
last_end (byte ∷ bytes) zero low is h =
    further_here (strings_end bytes) byte (none_end bytes (λ j up high z. h (suc j) (omega arith) (omega arith) z)) is
last_end (byte ∷ bytes) (suc k) low is h =
    let rest : strings_end bytes ≡ suc k = omega (arith, last_end bytes k (omega arith) is (λ j up high z. h (suc j) (omega arith) (omega arith) z)) in
    omega (arith, further_more (strings_end bytes) byte k rest)

not_le : (n o : ℕ) → nat_lt o n ≡ not (nat_le n o)
not_le n o = grind (arith, nat_tests)

other_number : (n m : ℕ) → (n ≡ m → ⊥) → (n == m) ≡ false
other_number n m h = grind (arith, nat_tests)

-- at another offset than 0 a name is the string there
pub name_is : (names : List ℕ) (o : ℕ) → (o ≡ 0 → ⊥) → string_at names o ≡ name_at names o
name_is names o other = sym (cond-false (o == 0) _ _ (other_number o 0 other))

-- a section with an offset has a name just where that stands below the end of the names
pub named : (file : List ℕ) (h : SectionHeader) → h.sh_name < 2 ^ 32 → (h.sh_name ≡ 0 → ⊥) → nat_lt h.sh_name (names_end file) ≡ not (is_none (name_of file h))
named file h fits other = go (names_section file == 0) refl
  where
    go : (b : Bool) → (names_section file == 0) ≡ b → nat_lt h.sh_name (names_end file) ≡ not (is_none (name_of file h))
    go true e = ap (nat_lt h.sh_name) (cond-true (names_section file == 0) _ _ e) ∙ lt_true h.sh_name (2 ^ 32) fits ∙ ap (λ o. not (is_none o)) (sym (cond-true (names_section file == 0) _ _ e))
    go false e =
        let table = indexed_contents file (names_section file) in
        ap (nat_lt h.sh_name) (cond-false (names_section file == 0) _ _ e) ∙ not_le (strings_end table) h.sh_name
        ∙ ap not (sym (no_string table h.sh_name)) ∙ ap (λ o. not (is_none o)) (name_is table h.sh_name other)
        ∙ ap (λ o. not (is_none o)) (sym (cond-false (names_section file == 0) _ _ e))

pub has_end : (names : List ℕ) (o : ℕ) → nat_lt o (strings_end names) ≡ not (is_none (string_at names o))
has_end names o = not_le (strings_end names) o ∙ ap not (sym (no_string names o))

-- ---- which strings a map can show

-- the same, but for the string without bytes
abbrev all_shown : Option (List ℕ) → Bool
all_shown None = false
all_shown (Some name) = list_all is_name_byte name

shown_byte : (byte : ℕ) → (is_unshown byte ≡ true → ⊥) → (is_name_byte byte ≡ true) × ((byte == 0) ≡ false)
shown_byte byte other =
    let shown : is_name_byte byte ≡ true = by (is_name_byte byte) other in
    let low : 33 ≤ byte = leb-true 33 byte (and_parts (nat_le 33 byte) (nat_le byte 126) shown).0 in (shown, other_number byte 0 (λ e. omega (arith, e, low)))
  where
    by : (b : Bool) → (not b ≡ true → ⊥) → b ≡ true
    by true h = refl
    by false h = absurd (h refl)

unshown_byte : (byte : ℕ) → is_unshown byte ≡ true → is_name_byte byte ≡ false
unshown_byte byte h = by (is_name_byte byte) h
  where
    by : (b : Bool) → not b ≡ true → b ≡ false
    by true h = sym h
    by false h = refl

-- a byte that is not zero, and what follows it
more_shown : (byte : ℕ) (o : Option (List ℕ)) → is_name_byte byte ≡ true → all_shown (option_map (λ name. byte ∷ name) o) ≡ all_shown o
more_shown byte None shown = refl
more_shown byte (Some name) shown = ap (λ b. b && list_all is_name_byte name) shown

never_shown : (byte : ℕ) (o : Option (List ℕ)) → is_name_byte byte ≡ false → all_shown (option_map (λ name. byte ∷ name) o) ≡ false
never_shown byte None hidden = refl
never_shown byte (Some name) hidden = ap (λ b. b && list_all is_name_byte name) hidden

with_bytes : (byte : ℕ) (o : Option (List ℕ)) → can_show (option_map (λ name. byte ∷ name) o) ≡ all_shown (option_map (λ name. byte ∷ name) o)
with_bytes byte None = refl
with_bytes byte (Some name) = ap (λ b. b && list_all is_name_byte (byte ∷ name)) (lt_true 0 (length (byte ∷ name)) (omega arith))

first_byte : (byte : ℕ) (bytes : List ℕ) → (byte == 0) ≡ false → before_zero (byte ∷ bytes) ≡ option_map (λ name. byte ∷ name) (before_zero bytes)
first_byte byte bytes other = cond-false (byte == 0) _ _ other

none_shown : (bytes : List ℕ) → ((j : ℕ) → j < length bytes → is_unshown (get_or bytes j 0) ≡ true → ⊥) → all_shown (before_zero bytes) ≡ false
none_shown [] h = refl
none_shown (byte ∷ bytes) h =
    let one = shown_byte byte (h 0 (omega arith)) in
    ap all_shown (first_byte byte bytes one.1) ∙ more_shown byte (before_zero bytes) one.0 ∙ none_shown bytes (λ j within. h (suc j) (omega (arith, within)))

here_shown : (byte : ℕ) (bytes : List ℕ) (b : Bool) → (byte == 0) ≡ b → is_name_byte byte ≡ false → all_shown (before_zero (byte ∷ bytes)) ≡ b
here_shown byte bytes true zeros hidden = ap all_shown (cond-true (byte == 0) _ _ zeros)
here_shown byte bytes false other hidden = ap all_shown (first_byte byte bytes other) ∙ never_shown byte (before_zero bytes) hidden

-- the bytes before the first that no map shows
shown_to : (bytes : List ℕ) (k : ℕ) → k < length bytes → ((j : ℕ) → j < k → is_unshown (get_or bytes j 0) ≡ true → ⊥) → is_unshown (get_or bytes k 0) ≡ true →
    all_shown (before_zero bytes) ≡ (get_or bytes k 0 == 0)
shown_to [] k within before here = absurd (omega (arith, within))
shown_to (byte ∷ bytes) zero within before here = here_shown byte bytes (byte == 0) refl (unshown_byte byte here)
shown_to (byte ∷ bytes) (suc k) within before here =
    let one = shown_byte byte (before 0 (omega arith)) in
    ap all_shown (first_byte byte bytes one.1) ∙ more_shown byte (before_zero bytes) one.0
    ∙ shown_to bytes k (omega (arith, within)) (λ j less. before (suc j) (omega (arith, less))) here

-- no string without bytes is shown
empty_or_all : (byte : ℕ) (bytes : List ℕ) (b : Bool) → (byte == 0) ≡ b → can_show (before_zero (byte ∷ bytes)) ≡ (not b && all_shown (before_zero (byte ∷ bytes)))
empty_or_all byte bytes true zeros = ap can_show (cond-true (byte == 0) _ _ zeros)
empty_or_all byte bytes false other = ap can_show (first_byte byte bytes other) ∙ with_bytes byte (before_zero bytes) ∙ ap all_shown (sym (first_byte byte bytes other))

never_both : (b : Bool) → (not b && b) ≡ false
never_both true = refl
never_both false = refl

shows_to : (bytes : List ℕ) (k : ℕ) → k < length bytes → ((j : ℕ) → j < k → is_unshown (get_or bytes j 0) ≡ true → ⊥) → is_unshown (get_or bytes k 0) ≡ true →
    can_show (before_zero bytes) ≡ (nat_lt 0 k && (get_or bytes k 0 == 0))
shows_to [] k within before here = absurd (omega (arith, within))
shows_to (byte ∷ bytes) zero within before here =
    empty_or_all byte bytes (byte == 0) refl ∙ ap (λ b. not (byte == 0) && b) (here_shown byte bytes (byte == 0) refl (unshown_byte byte here)) ∙ never_both (byte == 0)
shows_to (byte ∷ bytes) (suc k) within before here =
    empty_or_all byte bytes false (shown_byte byte (before 0 (omega arith))).1 ∙ shown_to (byte ∷ bytes) (suc k) within before here
    ∙ ap (λ b. b && (get_or (byte ∷ bytes) (suc k) 0 == 0)) (sym (lt_true 0 (suc k) (omega arith)))

shows_none : (bytes : List ℕ) → ((j : ℕ) → j < length bytes → is_unshown (get_or bytes j 0) ≡ true → ⊥) → can_show (before_zero bytes) ≡ false
shows_none [] h = refl
shows_none (byte ∷ bytes) h = empty_or_all byte bytes false (shown_byte byte (h 0 (omega arith))).1 ∙ none_shown (byte ∷ bytes) h

pub not_shown : (table : List ℕ) (o : ℕ) → IsFirst (Passes is_unshown table) o (length table) None → false ≡ can_show (string_at table o)
not_shown table o none =
    let long = length-drop o table in
    sym (shows_none (drop o table) (λ j within here. none (o + j) (omega arith) (omega (arith, within, long)) (sym (ap is_unshown (get_or-drop o table j 0)) ∙ here)))

apart : (o p : ℕ) → o ≤ p → nat_lt 0 (p - o) ≡ nat_lt o p
apart o p low = grind (arith, nat_tests)

from_offset : (table : List ℕ) (o p : ℕ) → o ≤ p → get_or (drop o table) (p - o) 0 ≡ slice_index table p
from_offset table o p low =
    let at : o + (p - o) ≡ p = omega (arith, low) in
    get_or-drop o table (p - o) 0 ∙ ap (slice_index table) at

pub shown_until : (table : List ℕ) (o p : ℕ) → IsFirst (Passes is_unshown table) o (length table) (Some p) → (nat_lt o p && (slice_index table p == 0)) ≡ can_show (string_at table o)
shown_until table o p first =
    let long = length-drop o table in
    let low = first.0.low in
    let high = first.0.high in
    let same = from_offset table o p low in
    sym (
    shows_to (drop o table) (p - o) (omega (arith, low, high, long))
    (λ j less here. first.0.before (o + j) (omega arith) (omega (arith, less, low)) (sym (ap is_unshown (get_or-drop o table j 0)) ∙ here))
    (ap is_unshown same ∙ first.1)
    ∙ ap (λ b. b && (get_or (drop o table) (p - o) 0 == 0)) (apart o p low) ∙ ap (λ n. nat_lt o p && (n == 0)) same)

-- ---- the positions of the bytes that no map shows, one byte further

pub more_unshown : (table found : List ℕ) (i : ℕ) → i < length table → is_name_byte (slice_index table i) ≡ true →
    found ++ places_from is_unshown table i (length table - i) ≡ places is_unshown table →
    found ++ places_from is_unshown table (i + 1) (length table - (i + 1)) ≡ places is_unshown table
more_unshown table found i less shown was = ap (λ more. found ++ more) (sym (next_fails is_unshown table i less (ap not shown))) ∙ was

pub one_unshown : (table found new : List ℕ) (i : ℕ) → i < length table → is_name_byte (slice_index table i) ≡ false → new ≡ found ++ i ∷ [] →
    found ++ places_from is_unshown table i (length table - i) ≡ places is_unshown table →
    new ++ places_from is_unshown table (i + 1) (length table - (i + 1)) ≡ places is_unshown table
one_unshown table found new i less hidden more was =
    let rest = places_from is_unshown table (i + 1) (length table - (i + 1)) in
    ap (λ xs. xs ++ rest) more ∙ append_assoc found (i ∷ []) rest
    ∙ ap (λ xs. found ++ xs) (sym (next_passes is_unshown table i less (ap not hidden))) ∙ was

pub all_unshown : (table found : List ℕ) (i : ℕ) → length table ≤ i → found ++ places_from is_unshown table i (length table - i) ≡ places is_unshown table → found ≡ places is_unshown table
all_unshown table found i past was = sym (append-nil found) ∙ all_found is_unshown table found i past was
