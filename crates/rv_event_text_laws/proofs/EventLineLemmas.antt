-- An event is read back from its line, part by part: what two equal texts begin with is equal, and so is what follows.

use Rattle.std.proofs.Common.{◌≡◌, ℕ, zero, suc, ◌+◌, ◌*◌, ◌/◌, ◌%◌, ◌^◌, ◌<◌, ◌≤◌, ◌⊎◌, inl, inr, Bool, true, false, List, [], ◌∷◌, ◌++◌, length, get_or, Option, Some, None, refl, sym, ap, ◌∙◌, subst, append_assoc, pow-suc, arith, lit<, codes}
use Rattle.std.specs.Prelude.{◌==◌, nat_lt, if◌then◌else◌}
use Rattle.std.specs.Fmt.{digit_glyph}
use Rattle.std.specs.List.{AllByRecursion}
use Rattle.std.proofs.lemmas.Bool.{ne_eqb}
use Rattle.std.proofs.lemmas.Bool.Decides.{nat_tests}
use Rattle.std.proofs.lemmas.List.{append_cancel_left, length_push}
use Rattle.rv_list_laws.proofs.EachLemmas.{each_more}
use Rattle.rv_list_laws.proofs.ElementsLemmas.{cons_parts}
use Rattle.rv_isa.specs.RegisterNames.{decimal}
use Rattle.rv_isa_laws.specs.Hart.{End, Exited, Limit, Breakpoint, Illegal, FetchOutside, LoadText, LoadOutside, StoreText, StoreOutside, MisalignedAtomic, Astray}
use Rattle.rv_isa_laws.specs.Run.{Fetched, NoRight, NoInstruction, Got}
use Rattle.rv_isa_laws.specs.Word.{form, word}
use Rattle.rv_event_laws.specs.declared.access.Access.{Access}
use Rattle.rv_event_laws.specs.declared.access.Setting.{Setting}
use Rattle.rv_event_laws.specs.Event.{Event}
use Rattle.rv_event_text_laws.specs.EventLine.{hex_digits, hex_bytes, fetched_text, access_text, accessed_text, set_text, moved_text, end_words, ended_text, event_line, lines_of}
use Rattle.rv_event_text_laws.specs.InRange.{IsByte, IsFetched, IsAccessWidth, IsAccess, IsSetting, IsEnd, IsEnded, IsMachineEvent}
use Rattle.rv_event_text_laws.proofs.WordsLemmas.{same_instruction, word_below}

-- ---- digits

glyph_same : (a b : ℕ) → a < 16 → b < 16 → digit_glyph false a ≡ digit_glyph false b → a ≡ b
glyph_same a b u v e = grind (arith, nat_tests)

glyph_high : (a : ℕ) → 48 ≤ digit_glyph false a
glyph_high a = grind (arith, nat_tests)

glyph_of_length : (a : ℕ) → a < 10 → digit_glyph false a ≡ 48 + a
glyph_of_length a u = grind (arith, nat_tests)

pub same_digits : (n v w : ℕ) (x y : List ℕ) → v < 16 ^ n → w < 16 ^ n → hex_digits n v ++ x ≡ hex_digits n w ++ y → (v ≡ w) × (x ≡ y)
unfolding hex_digits
same_digits zero v w x y a b e = (omega arith, e)
same_digits (suc n) v w x y a b e =
    let power : 16 ^ suc n ≡ 16 ^ n * 16 = pow-suc 16 n in
    let split : hex_digits n (v / 16) ++ (digit_glyph false (v % 16) ∷ x) ≡ hex_digits n (w / 16) ++ (digit_glyph false (w % 16) ∷ y) =
    sym (append_assoc (hex_digits n (v / 16)) (digit_glyph false (v % 16) ∷ []) x) ∙ e ∙ append_assoc (hex_digits n (w / 16)) (digit_glyph false (w % 16) ∷ []) y in
    let rest = same_digits n (v / 16) (w / 16) (digit_glyph false (v % 16) ∷ x) (digit_glyph false (w % 16) ∷ y) (omega (arith, power)) (omega (arith, power)) split in
    let ends = cons_parts (digit_glyph false (v % 16)) (digit_glyph false (w % 16)) x y rest.1 in
    let low : v % 16 ≡ w % 16 = glyph_same (v % 16) (w % 16) (omega arith) (omega arith) ends.0 in
    let high : v / 16 ≡ w / 16 = rest.0 in
    (omega (arith, low, high), ends.1)

abbrev IsHigh : ℕ → Type 0
IsHigh b = 48 ≤ b

pub digits_step : (n v : ℕ) → hex_digits (suc n) v ≡ hex_digits n (v / 16) ++ (digit_glyph false (v % 16) ∷ [])
unfolding hex_digits
digits_step n v = refl

pub digits_none : (v : ℕ) → hex_digits 0 v ≡ []
unfolding hex_digits
digits_none v = refl

all_high : (n v : ℕ) → AllByRecursion IsHigh (hex_digits n v)
unfolding hex_digits
all_high zero v = tt
all_high (suc n) v = each_more IsHigh (hex_digits n (v / 16)) (digit_glyph false (v % 16)) (all_high n (v / 16)) (glyph_high (v % 16))

digits_long : (n v : ℕ) → length (hex_digits n v) ≡ n
unfolding hex_digits
digits_long zero v = refl
digits_long (suc n) v =
    let one = length_push (hex_digits n (v / 16)) (digit_glyph false (v % 16)) in
    let rest = digits_long n (v / 16) in
    omega (arith, one, rest)

-- ---- what may follow digits: nothing, a blank or a line feed

abbrev IsLow : List ℕ → Type 0
IsLow s = get_or s 0 0 < 48

low_not : (s : List ℕ) (y : ℕ) (z : List ℕ) → IsLow s → 48 ≤ y → s ≡ y ∷ z → ⊥
low_not s y z low high e =
    let at : get_or s 0 0 ≡ y = ap (λ (l : List ℕ). get_or l 0 0) e in
    absurd (omega (arith, at, low, high))

span_same : (xs ys s t : List ℕ) → AllByRecursion IsHigh xs → AllByRecursion IsHigh ys → IsLow s → IsLow t → xs ++ s ≡ ys ++ t → length xs ≡ length ys
span_same [] [] s t u v p q e = refl
span_same [] (y ∷ ys) s t u v p q e = absurd (low_not s y (ys ++ t) p v.0 e)
span_same (x ∷ xs) [] s t u v p q e = absurd (low_not t x (xs ++ s) q u.0 (sym e))
span_same (x ∷ xs) (y ∷ ys) s t u v p q e = ap suc (span_same xs ys s t u.1 v.1 p q (cons_parts x y (xs ++ s) (ys ++ t) e).1)

wide_fits : (n v : ℕ) → IsAccessWidth n → v < 2 ^ (8 * n) → v < 16 ^ (2 * n)
wide_fits n v (inl e) h = subst (λ (k : ℕ). v < 16 ^ (2 * k)) (sym e) (subst (λ (k : ℕ). v < 2 ^ (8 * k)) e h)
wide_fits n v (inr (inl e)) h = subst (λ (k : ℕ). v < 16 ^ (2 * k)) (sym e) (subst (λ (k : ℕ). v < 2 ^ (8 * k)) e h)
wide_fits n v (inr (inr (inl e))) h = subst (λ (k : ℕ). v < 16 ^ (2 * k)) (sym e) (subst (λ (k : ℕ). v < 2 ^ (8 * k)) e h)
wide_fits n v (inr (inr (inr e))) h = subst (λ (k : ℕ). v < 16 ^ (2 * k)) (sym e) (subst (λ (k : ℕ). v < 2 ^ (8 * k)) e h)

same_number : (b c v w : ℕ) (s t : List ℕ) → IsAccessWidth b → IsAccessWidth c → v < 2 ^ (8 * b) → w < 2 ^ (8 * c) → IsLow s → IsLow t → hex_digits (2 * b) v ++ s ≡ hex_digits (2 * c) w ++ t → (b ≡ c) × (v ≡ w) × (s ≡ t)
same_number b c v w s t p q u z low other e =
    let long = span_same (hex_digits (2 * b) v) (hex_digits (2 * c) w) s t (all_high (2 * b) v) (all_high (2 * c) w) low other e in
    let one = digits_long (2 * b) v in
    let two = digits_long (2 * c) w in
    let same : b ≡ c = omega (arith, long, one, two) in
    let there : w < 2 ^ (8 * b) = subst (λ (k : ℕ). w < 2 ^ (8 * k)) (sym same) z in
    let found = same_digits (2 * b) v w s t (wide_fits b v p u) (wide_fits b w p there) (subst (λ (k : ℕ). hex_digits (2 * b) v ++ s ≡ hex_digits (2 * k) w ++ t) (sym same) e) in
    (same, found.0, found.1)

-- ---- a part's mark: what stands behind the blank before it

abbrev mark : List ℕ → ℕ
mark [] = 0
mark (c ∷ s) = if c == 32 then get_or s 0 0 else 0

abbrev Avoids : ℕ → List ℕ → Type 0
Avoids k s = mark s ≡ k → ⊥

-- the arrow's first byte, of an access
abbrev arrow_in : List ℕ → ℕ
arrow_in s = if mark s == 91 then get_or s 20 0 else 0

abbrev AvoidsRead : List ℕ → Type 0
AvoidsRead s = arrow_in s ≡ 45 → ⊥

-- ---- accesses

access_then : (arrow : List ℕ) (x : Access) (s : List ℕ) → access_text arrow x ++ s ≡ codes " [" ++ (hex_digits 16 x.address ++ (codes "] " ++ (arrow ++ (codes " " ++ (hex_digits (2 * x.bytes) x.number ++ s)))))
access_then arrow x s = simp append_assoc

same_access : (arrow : List ℕ) (x y : Access) (s t : List ℕ) → IsAccess (Some x) → IsAccess (Some y) → IsLow s → IsLow t → access_text arrow x ++ s ≡ access_text arrow y ++ t → (x ≡ y) × (s ≡ t)
same_access arrow x y s t u v low other e =
    let whole = sym (access_then arrow x s) ∙ e ∙ access_then arrow y t in
    let address = same_digits 16 x.address y.address _ _ u.0 v.0 (append_cancel_left (codes " [") _ _ whole) in
    let rest = append_cancel_left (codes " ") _ _ (append_cancel_left arrow _ _ (append_cancel_left (codes "] ") _ _ address.1)) in
    let number = same_number x.bytes y.bytes x.number y.number s t u.1 v.1 u.2 v.2 low other rest in
    (λ i. record { address = address.0 i; bytes = number.0 i; number = number.1 i }, number.2)

reads_arrow : (x : Access) (s : List ℕ) → arrow_in (access_text (codes "->") x ++ s) ≡ 45
unfolding hex_digits
reads_arrow x s = refl

stores_arrow : (x : Access) (s : List ℕ) → arrow_in (access_text (codes "<-") x ++ s) ≡ 60
unfolding hex_digits
stores_arrow x s = refl

same_read : (o p : Option Access) (s t : List ℕ) → IsAccess o → IsAccess p → IsLow s → IsLow t → AvoidsRead s → AvoidsRead t → accessed_text (codes "->") o ++ s ≡ accessed_text (codes "->") p ++ t → (o ≡ p) × (s ≡ t)
same_read None None s t u v low other away aside e = (refl, e)
same_read None (Some y) s t u v low other away aside e = absurd (away (ap arrow_in e ∙ reads_arrow y t))
same_read (Some x) None s t u v low other away aside e = absurd (aside (sym (ap arrow_in e) ∙ reads_arrow x s))
same_read (Some x) (Some y) s t u v low other away aside e =
    let found = same_access (codes "->") x y s t u v low other e in
    (ap (λ (a : Access). Some a) found.0, found.1)

same_stored : (o p : Option Access) (s t : List ℕ) → IsAccess o → IsAccess p → IsLow s → IsLow t → Avoids 91 s → Avoids 91 t → accessed_text (codes "<-") o ++ s ≡ accessed_text (codes "<-") p ++ t → (o ≡ p) × (s ≡ t)
same_stored None None s t u v low other away aside e = (refl, e)
same_stored None (Some y) s t u v low other away aside e = absurd (away (ap mark e))
same_stored (Some x) None s t u v low other away aside e = absurd (aside (sym (ap mark e)))
same_stored (Some x) (Some y) s t u v low other away aside e =
    let found = same_access (codes "<-") x y s t u v low other e in
    (ap (λ (a : Access). Some a) found.0, found.1)

-- ---- the register

decimal_by : (p q : Bool) (a b : ℕ) (x y : List ℕ) → nat_lt a 10 ≡ p → nat_lt b 10 ≡ q → a < 32 → b < 32
    → (if p then (48 + a) ∷ [] else (48 + a / 10) ∷ (48 + a % 10) ∷ []) ++ (32 ∷ x) ≡ (if q then (48 + b) ∷ [] else (48 + b / 10) ∷ (48 + b % 10) ∷ []) ++ (32 ∷ y)
    → (a ≡ b) × (x ≡ y)
decimal_by true true a b x y f g u v e =
    let h : 48 + a ≡ 48 + b = cc in
    let t : x ≡ y = cc in
    (omega (arith, h), t)
decimal_by true false a b x y f g u v e = let h : 32 ≡ 48 + b % 10 = cc in absurd (omega (arith, h))
decimal_by false true a b x y f g u v e = let h : 48 + a % 10 ≡ 32 = cc in absurd (omega (arith, h))
decimal_by false false a b x y f g u v e =
    let h : 48 + a / 10 ≡ 48 + b / 10 = cc in
    let k : 48 + a % 10 ≡ 48 + b % 10 = cc in
    let t : x ≡ y = cc in
    (omega (arith, h, k), t)

same_register : (a b : ℕ) (x y : List ℕ) → a < 32 → b < 32 → decimal a ++ (32 ∷ x) ≡ decimal b ++ (32 ∷ y) → (a ≡ b) × (x ≡ y)
same_register a b x y u v e = decimal_by (nat_lt a 10) (nat_lt b 10) a b x y refl refl u v e

set_then : (x : Setting) (s : List ℕ) → set_text (Some x) ++ s ≡ codes " x" ++ (decimal x.register ++ (codes " <- " ++ (hex_digits 16 x.value ++ s)))
set_then x s = simp append_assoc

same_set : (o p : Option Setting) (s t : List ℕ) → IsSetting o → IsSetting p → Avoids 120 s → Avoids 120 t → set_text o ++ s ≡ set_text p ++ t → (o ≡ p) × (s ≡ t)
same_set None None s t u v away aside e = (refl, e)
same_set None (Some y) s t u v away aside e = absurd (away (ap mark e))
same_set (Some x) None s t u v away aside e = absurd (aside (sym (ap mark e)))
same_set (Some x) (Some y) s t u v away aside e =
    let whole = sym (set_then x s) ∙ e ∙ set_then y t in
    let register = same_register x.register y.register _ _ u.0 v.0 (append_cancel_left (codes " x") _ _ whole) in
    let value = same_digits 16 x.value y.value s t u.1 v.1 (append_cancel_left (codes "<- ") _ _ register.1) in
    (ap (λ (a : Setting). Some a) (λ i. record { register = register.0 i; value = value.0 i }), value.1)

-- ---- bytes

high_first : (xs s : List ℕ) → AllByRecursion IsHigh xs → 0 < length xs → 48 ≤ get_or (xs ++ s) 0 0
high_first [] s all some = absurd (omega (arith, some))
high_first (x ∷ xs) s all some = all.0

pair_first : (b : ℕ) (s : List ℕ) → 48 ≤ get_or (hex_digits 2 b ++ s) 0 0
pair_first b s = let long = digits_long 2 b in high_first (hex_digits 2 b) s (all_high 2 b) (omega (arith, long))

pair_not : (s : List ℕ) (b : ℕ) (z : List ℕ) → IsLow s → s ≡ hex_digits 2 b ++ z → ⊥
pair_not s b z low e =
    let at : get_or s 0 0 ≡ get_or (hex_digits 2 b ++ z) 0 0 = ap (λ (l : List ℕ). get_or l 0 0) e in
    let high = pair_first b z in
    absurd (omega (arith, at, low, high))

pairs_then : (b : ℕ) (bs s : List ℕ) → hex_bytes (b ∷ bs) ++ s ≡ hex_digits 2 b ++ (hex_bytes bs ++ s)
pairs_then b bs s = append_assoc (hex_digits 2 b) (hex_bytes bs) s

same_pairs : (bs cs s t : List ℕ) → AllByRecursion IsByte bs → AllByRecursion IsByte cs → IsLow s → IsLow t → hex_bytes bs ++ s ≡ hex_bytes cs ++ t → (bs ≡ cs) × (s ≡ t)
same_pairs [] [] s t u v low other e = (refl, e)
same_pairs [] (c ∷ cs) s t u v low other e = absurd (pair_not s c (hex_bytes cs ++ t) low (e ∙ pairs_then c cs t))
same_pairs (b ∷ bs) [] s t u v low other e = absurd (pair_not t b (hex_bytes bs ++ s) other (sym e ∙ pairs_then b bs s))
same_pairs (b ∷ bs) (c ∷ cs) s t u v low other e =
    let first = same_digits 2 b c (hex_bytes bs ++ s) (hex_bytes cs ++ t) u.0 v.0 (sym (pairs_then b bs s) ∙ e ∙ pairs_then c cs t) in
    let rest = same_pairs bs cs s t u.1 v.1 low other first.1 in
    (λ i. first.0 i ∷ rest.0 i, rest.1)

moved_then : (name : List ℕ) (b : ℕ) (bs s : List ℕ) → moved_text name (b ∷ bs) ++ s ≡ name ++ (hex_bytes (b ∷ bs) ++ s)
moved_then name b bs s = append_assoc name (hex_bytes (b ∷ bs)) s

same_moved : (k : ℕ) (name bs cs s t : List ℕ) → AllByRecursion IsByte bs → AllByRecursion IsByte cs → IsLow s → IsLow t → Avoids k s → Avoids k t → moved_text (32 ∷ k ∷ name) bs ++ s ≡ moved_text (32 ∷ k ∷ name) cs ++ t → (bs ≡ cs) × (s ≡ t)
same_moved k name [] [] s t u v low other away aside e = (refl, e)
same_moved k name [] (c ∷ cs) s t u v low other away aside e = absurd (away (ap mark e))
same_moved k name (b ∷ bs) [] s t u v low other away aside e = absurd (aside (sym (ap mark e)))
same_moved k name (b ∷ bs) (c ∷ cs) s t u v low other away aside e =
    let whole = sym (moved_then (32 ∷ k ∷ name) b bs s) ∙ e ∙ moved_then (32 ∷ k ∷ name) c cs t in
    same_pairs (b ∷ bs) (c ∷ cs) s t u v low other (append_cancel_left (32 ∷ k ∷ name) _ _ whole)

-- ---- ends

-- two bytes that tell the names apart
abbrev tag : List ℕ → ℕ
tag s = get_or s 0 0 * 256 + get_or s 5 0

same_end : (make : ℕ → End) (name : List ℕ) (n a b : ℕ) (x y : List ℕ) → a < 16 ^ n → b < 16 ^ n → name ++ (hex_digits n a ++ (10 ∷ x)) ≡ name ++ (hex_digits n b ++ (10 ∷ y)) → (make a ≡ make b) × (x ≡ y)
same_end make name n a b x y u v e =
    let found = same_digits n a b (10 ∷ x) (10 ∷ y) u v (append_cancel_left name _ _ e) in
    (ap make found.0, (cons_parts 10 10 x y found.1).1)

same_name : (name : List ℕ) (x y : List ℕ) → name ++ (10 ∷ x) ≡ name ++ (10 ∷ y) → x ≡ y
same_name name x y e = (cons_parts 10 10 x y (append_cancel_left name _ _ e)).1

same_words : (a b : End) (x y : List ℕ) → IsEnd a → IsEnd b → end_words a ++ (10 ∷ x) ≡ end_words b ++ (10 ∷ y) → (a ≡ b) × (x ≡ y)
same_words (Exited a) (Exited b) x y u v e = same_end (λ c. Exited c) (codes "Exited ") 2 a b x y u v e
same_words Limit Limit x y u v e = (refl, same_name (codes "Limit") x y e)
same_words Breakpoint Breakpoint x y u v e = (refl, same_name (codes "Breakpoint") x y e)
same_words (Illegal a) (Illegal b) x y u v e = same_end (λ c. Illegal c) (codes "Illegal ") 16 a b x y u v e
same_words (FetchOutside a) (FetchOutside b) x y u v e = same_end (λ c. FetchOutside c) (codes "FetchOutside ") 16 a b x y u v e
same_words (LoadText a) (LoadText b) x y u v e = same_end (λ c. LoadText c) (codes "LoadText ") 16 a b x y u v e
same_words (LoadOutside a) (LoadOutside b) x y u v e = same_end (λ c. LoadOutside c) (codes "LoadOutside ") 16 a b x y u v e
same_words (StoreText a) (StoreText b) x y u v e = same_end (λ c. StoreText c) (codes "StoreText ") 16 a b x y u v e
same_words (StoreOutside a) (StoreOutside b) x y u v e = same_end (λ c. StoreOutside c) (codes "StoreOutside ") 16 a b x y u v e
same_words (MisalignedAtomic a) (MisalignedAtomic b) x y u v e = same_end (λ c. MisalignedAtomic c) (codes "MisalignedAtomic ") 16 a b x y u v e
same_words Astray Astray x y u v e = (refl, same_name (codes "Astray") x y e)
same_words a b x y u v e =
    let h : tag (end_words a ++ (10 ∷ x)) ≡ tag (end_words b ++ (10 ∷ y)) = ap tag e in
    absurd (omega (arith, h))

same_ended : (o p : Option End) (x y : List ℕ) → IsEnded o → IsEnded p → ended_text o ++ (10 ∷ x) ≡ ended_text p ++ (10 ∷ y) → (o ≡ p) × (x ≡ y)
same_ended None None x y u v e = (refl, (cons_parts 10 10 x y e).1)
same_ended None (Some b) x y u v e = let h : 10 ≡ 32 = ap (λ (l : List ℕ). get_or l 0 0) e in absurd (omega (arith, h))
same_ended (Some a) None x y u v e = let h : 32 ≡ 10 = ap (λ (l : List ℕ). get_or l 0 0) e in absurd (omega (arith, h))
same_ended (Some a) (Some b) x y u v e =
    let found = same_words a b x y u v (append_cancel_left (codes " end ") _ _ e) in
    (ap (λ (c : End). Some c) found.0, found.1)

-- ---- what is fetched

got_then : (n w : ℕ) (s : List ℕ) → (hex_digits 1 n ++ (codes " " ++ hex_digits 8 w)) ++ s ≡ hex_digits 1 n ++ (32 ∷ (hex_digits 8 w ++ s))
got_then n w s = simp append_assoc

length_below : (n : ℕ) → (n ≡ 2) ⊎ (n ≡ 4) → n < 10
length_below n (inl e) = omega arith
length_below n (inr e) = omega arith

length_first : (n : ℕ) (s : List ℕ) → n < 10 → get_or (hex_digits 1 n ++ s) 0 0 ≡ 48 + n
unfolding hex_digits
length_first n s below =
    let same : n % 16 ≡ n = omega arith in
    ap (λ (k : ℕ). digit_glyph false k) same ∙ glyph_of_length n below

no_length : (n w : ℕ) (s t : List ℕ) → (n ≡ 2) ⊎ (n ≡ 4) → (hex_digits 1 n ++ (codes " " ++ hex_digits 8 w)) ++ s ≡ 110 ∷ t → ⊥
no_length n w s t is e =
    let below = length_below n is in
    let first = length_first n (32 ∷ (hex_digits 8 w ++ s)) below in
    let at : get_or (hex_digits 1 n ++ (32 ∷ (hex_digits 8 w ++ s))) 0 0 ≡ 110 = ap (λ (l : List ℕ). get_or l 0 0) (sym (got_then n w s) ∙ e) in
    absurd (omega (arith, first, at, below))

same_fetched : (f g : Fetched) (s t : List ℕ) → IsFetched f → IsFetched g → fetched_text f ++ s ≡ fetched_text g ++ t → (f ≡ g) × (s ≡ t)
same_fetched (Got i n) (Got j k) s t u v e =
    let whole = sym (got_then n (word (form i)) s) ∙ e ∙ got_then k (word (form j)) t in
    let below = length_below n u.1 in
    let above = length_below k v.1 in
    let bytes = same_digits 1 n k (32 ∷ (hex_digits 8 (word (form i)) ++ s)) (32 ∷ (hex_digits 8 (word (form j)) ++ t)) (omega (arith, below)) (omega (arith, above)) whole in
    let words = same_digits 8 (word (form i)) (word (form j)) s t (word_below i u.0) (word_below j v.0) (cons_parts 32 32 _ _ bytes.1).1 in
    let same = same_instruction i j u.0 v.0 words.0 in
    (λ z. Got (same z) (bytes.0 z), words.1)
same_fetched NoRight NoRight s t u v e = (refl, append_cancel_left (codes "no right") _ _ e)
same_fetched NoInstruction NoInstruction s t u v e = (refl, append_cancel_left (codes "no instruction") _ _ e)
same_fetched (Got i n) NoRight s t u v e = absurd (no_length n (word (form i)) s _ u.1 e)
same_fetched (Got i n) NoInstruction s t u v e = absurd (no_length n (word (form i)) s _ u.1 e)
same_fetched NoRight (Got j k) s t u v e = absurd (no_length k (word (form j)) t _ v.1 (sym e))
same_fetched NoInstruction (Got j k) s t u v e = absurd (no_length k (word (form j)) t _ v.1 (sym e))
same_fetched NoRight NoInstruction s t u v e = let h : 114 ≡ 105 = ap (λ (l : List ℕ). get_or l 3 0) e in absurd (omega (arith, h))
same_fetched NoInstruction NoRight s t u v e = let h : 105 ≡ 114 = ap (λ (l : List ℕ). get_or l 3 0) e in absurd (omega (arith, h))

-- ---- what follows each part of a line, before the text x

abbrev from_end : Event → List ℕ → List ℕ
from_end e x = ended_text e.«end» ++ (10 ∷ x)

abbrev from_put : Event → List ℕ → List ℕ
from_put e x = moved_text (codes " output ") e.put ++ from_end e x

abbrev from_taken : Event → List ℕ → List ℕ
from_taken e x = moved_text (codes " input ") e.taken ++ from_put e x

abbrev from_stored : Event → List ℕ → List ℕ
from_stored e x = accessed_text (codes "<-") e.stored ++ from_taken e x

abbrev from_set : Event → List ℕ → List ℕ
from_set e x = set_text e.set ++ from_stored e x

abbrev from_read : Event → List ℕ → List ℕ
from_read e x = accessed_text (codes "->") e.read ++ from_set e x

low_end : (o : Option End) (x : List ℕ) → IsLow (ended_text o ++ (10 ∷ x))
low_end None x = lit< tt
low_end (Some e) x = lit< tt

low_moved : (k : ℕ) (name bs s : List ℕ) → IsLow s → IsLow (moved_text (32 ∷ k ∷ name) bs ++ s)
low_moved k name [] s low = low
low_moved k name (b ∷ bs) s low = lit< tt

low_stored : (o : Option Access) (s : List ℕ) → IsLow s → IsLow (accessed_text (codes "<-") o ++ s)
low_stored None s low = low
low_stored (Some x) s low = lit< tt

low_set : (o : Option Setting) (s : List ℕ) → IsLow s → IsLow (set_text o ++ s)
low_set None s low = low
low_set (Some x) s low = lit< tt

low_put : (e : Event) (x : List ℕ) → IsLow (from_put e x)
low_put e x = low_moved 111 (codes "utput ") e.put (from_end e x) (low_end e.«end» x)

low_taken : (e : Event) (x : List ℕ) → IsLow (from_taken e x)
low_taken e x = low_moved 105 (codes "nput ") e.taken (from_put e x) (low_put e x)

low_from_set : (e : Event) (x : List ℕ) → IsLow (from_set e x)
low_from_set e x = low_set e.set (from_stored e x) (low_stored e.stored (from_taken e x) (low_taken e x))

avoids_end : (k : ℕ) (o : Option End) (x : List ℕ) → (0 ≡ k → ⊥) → (101 ≡ k → ⊥) → Avoids k (ended_text o ++ (10 ∷ x))
avoids_end k None x away aside = away
avoids_end k (Some e) x away aside = aside

avoids_moved : (k j : ℕ) (name bs s : List ℕ) → (j ≡ k → ⊥) → Avoids k s → Avoids k (moved_text (32 ∷ j ∷ name) bs ++ s)
avoids_moved k j name [] s away rest = rest
avoids_moved k j name (b ∷ bs) s away rest = away

avoids_stored : (k : ℕ) (o : Option Access) (s : List ℕ) → (91 ≡ k → ⊥) → Avoids k s → Avoids k (accessed_text (codes "<-") o ++ s)
avoids_stored k None s away rest = rest
avoids_stored k (Some x) s away rest = away

avoids_put : (k : ℕ) (e : Event) (x : List ℕ) → (0 ≡ k → ⊥) → (101 ≡ k → ⊥) → (111 ≡ k → ⊥) → Avoids k (from_put e x)
avoids_put k e x a b c = avoids_moved k 111 (codes "utput ") e.put (from_end e x) c (avoids_end k e.«end» x a b)

avoids_taken : (k : ℕ) (e : Event) (x : List ℕ) → (0 ≡ k → ⊥) → (101 ≡ k → ⊥) → (111 ≡ k → ⊥) → (105 ≡ k → ⊥) → Avoids k (from_taken e x)
avoids_taken k e x a b c d = avoids_moved k 105 (codes "nput ") e.taken (from_put e x) d (avoids_put k e x a b c)

-- no access but a read has the arrow of one
no_arrow : (s : List ℕ) → Avoids 91 s → AvoidsRead s
no_arrow s away e =
    let not : (mark s == 91) ≡ false = ne_eqb (mark s) 91 away in
    let zero_is : arrow_in s ≡ 0 = ap (λ (b : Bool). if b then get_or s 20 0 else 0) not in
    absurd (omega (arith, zero_is, e))

no_read_stored : (o : Option Access) (s : List ℕ) → Avoids 91 s → AvoidsRead (accessed_text (codes "<-") o ++ s)
no_read_stored None s away = no_arrow s away
no_read_stored (Some x) s away = λ e. let h = sym (stores_arrow x s) ∙ e in absurd (omega (arith, h))

no_read_set : (o : Option Setting) (s : List ℕ) → AvoidsRead s → AvoidsRead (set_text o ++ s)
no_read_set None s away = away
no_read_set (Some x) s away = λ e. let h : 0 ≡ 45 = e in absurd (omega (arith, h))

no_read : (e : Event) (x : List ℕ) → AvoidsRead (from_set e x)
no_read e x =
    no_read_set e.set (from_stored e x)
    (no_read_stored e.stored (from_taken e x) (avoids_taken 91 e x (λ h. absurd (omega (arith, h))) (λ h. absurd (omega (arith, h))) (λ h. absurd (omega (arith, h))) (λ h. absurd (omega (arith, h)))))

no_set : (e : Event) (x : List ℕ) → Avoids 120 (from_stored e x)
no_set e x =
    avoids_stored 120 e.stored (from_taken e x) (λ h. absurd (omega (arith, h)))
    (avoids_taken 120 e x (λ h. absurd (omega (arith, h))) (λ h. absurd (omega (arith, h))) (λ h. absurd (omega (arith, h))) (λ h. absurd (omega (arith, h))))

no_stored : (e : Event) (x : List ℕ) → Avoids 91 (from_taken e x)
no_stored e x = avoids_taken 91 e x (λ h. absurd (omega (arith, h))) (λ h. absurd (omega (arith, h))) (λ h. absurd (omega (arith, h))) (λ h. absurd (omega (arith, h)))

no_taken : (e : Event) (x : List ℕ) → Avoids 105 (from_put e x)
no_taken e x = avoids_put 105 e x (λ h. absurd (omega (arith, h))) (λ h. absurd (omega (arith, h))) (λ h. absurd (omega (arith, h)))

no_put : (e : Event) (x : List ℕ) → Avoids 111 (from_end e x)
no_put e x = avoids_end 111 e.«end» x (λ h. absurd (omega (arith, h))) (λ h. absurd (omega (arith, h)))

-- ---- the line

line_then : (e : Event) (x : List ℕ) → event_line e ++ x ≡ hex_digits 16 e.pc ++ (32 ∷ (fetched_text e.fetched ++ from_read e x))
line_then e x = simp append_assoc

same_line : (e f : Event) (x y : List ℕ) → IsMachineEvent e → IsMachineEvent f → event_line e ++ x ≡ event_line f ++ y → (e ≡ f) × (x ≡ y)
same_line e f x y u v same =
    let whole = sym (line_then e x) ∙ same ∙ line_then f y in
    let pc = same_digits 16 e.pc f.pc _ _ u.pc v.pc whole in
    let fetched = same_fetched e.fetched f.fetched (from_read e x) (from_read f y) u.fetched v.fetched (cons_parts 32 32 _ _ pc.1).1 in
    let read = same_read e.read f.read (from_set e x) (from_set f y) u.read v.read (low_from_set e x) (low_from_set f y) (no_read e x) (no_read f y) fetched.1 in
    let set = same_set e.set f.set (from_stored e x) (from_stored f y) u.set v.set (no_set e x) (no_set f y) read.1 in
    let stored = same_stored e.stored f.stored (from_taken e x) (from_taken f y) u.stored v.stored (low_taken e x) (low_taken f y) (no_stored e x) (no_stored f y) set.1 in
    let taken = same_moved 105 (codes "nput ") e.taken f.taken (from_put e x) (from_put f y) u.taken v.taken (low_put e x) (low_put f y) (no_taken e x) (no_taken f y) stored.1 in
    let put = same_moved 111 (codes "utput ") e.put f.put (from_end e x) (from_end f y) u.put v.put (low_end e.«end» x) (low_end f.«end» y) (no_put e x) (no_put f y) taken.1 in
    let ended = same_ended e.«end» f.«end» x y u.ended v.ended put.1 in (
      λ i. record {
        pc = pc.0 i;
        fetched = fetched.0 i;
        read = read.0 i;
        stored = stored.0 i;
        set = set.0 i;
        taken = taken.0 i;
        put = put.0 i;
        «end» = ended.0 i;
      },
      ended.1,
    )

pub same_event : (e f : Event) → IsMachineEvent e → IsMachineEvent f → event_line e ≡ event_line f → e ≡ f
same_event e f u v same = (same_line e f [] [] u v (ap (λ (l : List ℕ). l ++ []) same)).0

line_first : (e : Event) (x : List ℕ) → 48 ≤ get_or (event_line e ++ x) 0 0
line_first e x =
    let long = digits_long 16 e.pc in
    let first = high_first (hex_digits 16 e.pc) (32 ∷ (fetched_text e.fetched ++ from_read e x)) (all_high 16 e.pc) (omega (arith, long)) in
    subst (λ (l : List ℕ). 48 ≤ get_or l 0 0) (sym (line_then e x)) first

no_line : (e : Event) (x : List ℕ) → [] ≡ event_line e ++ x → ⊥
no_line e x same =
    let first = line_first e x in
    let at : 0 ≡ get_or (event_line e ++ x) 0 0 = ap (λ (l : List ℕ). get_or l 0 0) same in
    absurd (omega (arith, first, at))

pub same_events : (es fs : List Event) → AllByRecursion IsMachineEvent es → AllByRecursion IsMachineEvent fs → lines_of es ≡ lines_of fs → es ≡ fs
same_events [] [] u v same = refl
same_events [] (f ∷ fs) u v same = absurd (no_line f (lines_of fs) same)
same_events (e ∷ es) [] u v same = absurd (no_line e (lines_of es) (sym same))
same_events (e ∷ es) (f ∷ fs) u v same =
    let first = same_line e f (lines_of es) (lines_of fs) u.0 v.0 same in
    let rest = same_events es fs u.1 v.1 first.1 in
    λ i. first.0 i ∷ rest i
