-- All parts of a statement, one after another.

use Rattle.std.proofs.Common.{◌≡◌, ℕ, suc, ◌+◌, ◌%◌, false, List, [], ◌∷◌, ◌++◌, length, map, refl, sym, ap, ◌∙◌, subst, arith, ◌⊎◌, inl, inr, length-append, Option, Some, None}
use Rattle.std.specs.List.{AllByRecursion}
use Rattle.rv_isa.specs.Ranges.{IsValid}
use Rattle.std.proofs.lemmas.List.Sums.{sum_by-cons}
use Rattle.std.specs.Prelude.{ℤ, flat_map}
use Rattle.std.proofs.lemmas.List.{append_assoc}
use Rattle.rv_isa.specs.declared.kind.Kind.{Kind}
use Rattle.rv_isa.specs.declared.instruction.Inst.{Inst}
use Rattle.rv_isa.specs.Kinds.{width_of}
use Rattle.rv_isa.specs.Operations.{format_of}
use Rattle.rv_isa_laws.proofs.BytesLemmas.{little_long}
use Rattle.rv_reloc_laws.specs.Fields.{patched}
use Rattle.rv_reloc_laws.specs.Operands.{with_value}
use Rattle.rv_parcel.specs.declared.form.Compressed.{Compressed}
use Rattle.rv_parcel.specs.Encoded.{IsEncodedIn, IsEncodedAs}
use Rattle.rv_pseudo_laws.specs.Code.{Part, Closed, Open, Joined}
use Rattle.rv_pseudo_laws.specs.Filled.{FieldValue, AreTaken, IsTaken, is_closed, filled, part_bytes}
use Rattle.rv_pseudo_laws.specs.Runs.{Sized, instructions_of, sum_of_bytes}
use Rattle.rv_pseudo_laws.specs.Valid.{IsValidPart}
use Rattle.rv_pseudo_laws.proofs.FillingLemmas.{filled_valid}
use Rattle.rv_filling_theorems.specs.Parts.{AreFew, IsEncodedPart, IsCallPart, IsNamedPart, AreFillable, AreEncoded, patched_part, patched_parts, sized, sized_part, sized_parts}
use Rattle.rv_filling_theorems.proofs.OneLemmas.{open_filled, call_filled, call_width}

-- ---- the bytes are as many

pub encoded_long : (i : Inst) (n : ℕ) (bytes : List ℕ) → IsEncodedIn i n bytes → length bytes ≡ n
encoded_long i n bytes (inl (e, is)) = ap length is ∙ sym e
encoded_long i n bytes (inr (e, (q, short, is))) = ap length is ∙ sym e

form_long : (named : Option Compressed) (i : Inst) (n : ℕ) (bytes : List ℕ) → IsEncodedAs named i n bytes → length bytes ≡ n
form_long None i n bytes h = encoded_long i n bytes h
form_long (Some form) i n bytes (e, line, same, is) = ap length is ∙ sym e

pub patched_long : (k : Kind) (v : ℤ) (bytes : List ℕ) → length (patched k v bytes) ≡ width_of k
patched_long k v bytes = little_long (width_of k) _

pub part_long : (named : Option Compressed) (value : FieldValue) (a : ℕ) (p : Part) (bytes : List ℕ) → IsCallPart p → IsEncodedPart named p bytes
    → length (patched_part value a p bytes) ≡ length bytes
part_long named value a (Closed i) bytes call h = refl
part_long named value a (Open k i) bytes call h = patched_long k (value k a) bytes ∙ sym (encoded_long i (width_of k) bytes h)
part_long named value a (Joined k i j) bytes call (first, (second, x, y, whole)) =
    patched_long k (value k a) bytes
    ∙ call_width k (format_of i) (format_of j) call
    ∙ sym (ap length whole ∙ length-append first second ∙ ap (λ n. n + length second) (encoded_long i 4 first x) ∙ ap (λ n. 4 + n) (encoded_long j 4 second y))

pub parts_long : (named : Option Compressed) (value : FieldValue) (a : ℕ) (ps : List Part) (coded : List (List ℕ)) → AreFillable named ps coded
    → map length (patched_parts value a ps coded) ≡ map length coded
parts_long named value a [] [] h = refl
parts_long named value a [] (bytes ∷ coded) h = absurd h
parts_long named value a (p ∷ ps) [] h = absurd h
parts_long named value a (p ∷ ps) (bytes ∷ coded) (valid, call, own, encoded, hs) =
    ap (λ n. n ∷ map length (patched_parts value (a + part_bytes p) ps coded)) (part_long named value a p bytes call encoded)
    ∙ ap (λ l. length bytes ∷ l) (parts_long named value (a + part_bytes p) ps coded hs)

-- ---- their instructions

pub parts_say : (named : Option Compressed) (value : FieldValue) (a : ℕ) (ps : List Part) (coded : List (List ℕ)) → AreFillable named ps coded
    → instructions_of (sized_parts value a ps coded) ≡ filled value a ps
parts_say named value a [] [] h = refl
parts_say named value a [] (bytes ∷ coded) h = absurd h
parts_say named value a (p ∷ ps) [] h = absurd h
parts_say named value a (Closed i ∷ ps) (bytes ∷ coded) (valid, call, own, encoded, hs) = ap (λ l. i ∷ l) (parts_say named value (a + 4) ps coded hs)
parts_say named value a (Open k i ∷ ps) (bytes ∷ coded) (valid, call, own, encoded, hs) =
    ap (λ l. with_value (value k a) i ∷ l) (parts_say named value (a + width_of k) ps coded hs)
parts_say named value a (Joined k i j ∷ ps) (bytes ∷ coded) (valid, call, own, encoded, hs) =
    ap (λ l. with_value (value k a) i ∷ with_value (value k a) j ∷ l) (parts_say named value (a + width_of k) ps coded hs)

-- ---- their bytes

one_more : (named : Option Compressed) (i : Inst) (n : ℕ) (front rest : List ℕ) (ls : List Sized) → IsEncodedAs named i n front → AreEncoded named ls rest
    → AreEncoded named (sized i n ∷ ls) (front ++ rest)
one_more named i n front rest ls own others = (front, (rest, refl, own, others))

part_encoded : (named : Option Compressed) (value : FieldValue) (a : ℕ) (p : Part) (bytes rest : List ℕ) (ls : List Sized) → IsValidPart p → IsCallPart p
    → IsNamedPart named p → IsEncodedPart named p bytes → IsTaken value a p → AreEncoded named ls rest
    → AreEncoded named (sized_part value a p bytes ++ ls) (patched_part value a p bytes ++ rest)
part_encoded named value a (Closed i) bytes rest ls valid call own h t others = one_more named i (length bytes) bytes rest ls h others
part_encoded (Some form) value a (Open k i) bytes rest ls valid call own h t others = absurd (cc)
part_encoded (Some form) value a (Joined k i j) bytes rest ls valid call own h t others = absurd (cc)
part_encoded None value a (Open k i) bytes rest ls valid call own h t others =
    one_more None (with_value (value k a) i) (width_of k) (patched k (value k a) bytes) rest ls (open_filled k (value k a) i bytes valid t h) others
part_encoded None value a (Joined k i j) bytes rest ls valid call own h t others =
    let x = with_value (value k a) i in
    let y = with_value (value k a) j in
    let c = call_filled k (value k a) i j bytes valid.0 valid.1 call t h in
    subst (AreEncoded None (sized x 4 ∷ sized y 4 ∷ ls)) (sym (append_assoc c.0 c.1.0 rest) ∙ ap (λ l. l ++ rest) (sym c.1.3))
    (one_more None x 4 c.0 (c.1.0 ++ rest) (sized y 4 ∷ ls) c.1.1 (one_more None y 4 c.1.0 rest ls c.1.2 others))

pub parts_encoded : (named : Option Compressed) (value : FieldValue) (a : ℕ) (ps : List Part) (coded : List (List ℕ)) → AreFillable named ps coded
    → AreTaken value a ps → AreEncoded named (sized_parts value a ps coded) (flat_map (λ bytes. bytes) (patched_parts value a ps coded))
parts_encoded named value a [] [] h t = refl
parts_encoded named value a [] (bytes ∷ coded) h t = absurd h
parts_encoded named value a (p ∷ ps) [] h t = absurd h
parts_encoded named value a (p ∷ ps) (bytes ∷ coded) (valid, call, own, encoded, hs) (t, ts) =
    part_encoded named value a p bytes (flat_map (λ bytes. bytes) (patched_parts value (a + part_bytes p) ps coded)) (sized_parts value (a + part_bytes p) ps coded)
    valid call own encoded t (parts_encoded named value (a + part_bytes p) ps coded hs ts)

-- ---- their sizes

two_or_four : (named : Option Compressed) (i : Inst) (n : ℕ) (bytes : List ℕ) → IsEncodedAs named i n bytes → (n ≡ 2) ⊎ (n ≡ 4)
two_or_four None i n bytes (inl (e, is)) = inr e
two_or_four None i n bytes (inr (e, short)) = inl e
two_or_four (Some form) i n bytes (e, line, same, is) = inl e

few_more : (count bytes one : ℕ) → (one ≡ 2) ⊎ (one ≡ 4) → AreFew count bytes → AreFew (suc count) (one + bytes)
few_more count bytes one (inl e) (a, b, c) = (omega (arith, a, e), omega (arith, b, e), (let f : (one + bytes) % 2 ≡ 0 = omega (arith, c, e) in f))
few_more count bytes one (inr e) (a, b, c) = (omega (arith, a, e), omega (arith, b, e), (let f : (one + bytes) % 2 ≡ 0 = omega (arith, c, e) in f))

pub all_few : (named : Option Compressed) (ls : List Sized) (bytes : List ℕ) → AreEncoded named ls bytes → AreFew (length ls) (length bytes)
all_few named [] bytes h = subst (λ l. AreFew 0 (length l)) (sym h) (omega arith, omega arith, refl)
all_few named (l ∷ ls) bytes (front, (rest, whole, own, others)) =
    subst (AreFew (suc (length ls))) (ap (λ n. n + length rest) (sym (form_long named l.instruction l.bytes front own)) ∙ sym (ap length whole ∙ length-append front rest))
    (few_more (length ls) (length rest) l.bytes (two_or_four named l.instruction l.bytes front own) (all_few named ls rest others))

pub all_long : (named : Option Compressed) (ls : List Sized) (bytes : List ℕ) → AreEncoded named ls bytes → sum_of_bytes ls ≡ length bytes
all_long named [] bytes h = sym (ap length h)
all_long named (l ∷ ls) bytes (front, (rest, whole, own, others)) =
    sum_by-cons (λ (l : Sized). l.bytes) l ls ∙ ap (λ n. l.bytes + n) (all_long named ls rest others)
    ∙ ap (λ n. n + length rest) (sym (form_long named l.instruction l.bytes front own)) ∙ sym (ap length whole ∙ length-append front rest)

-- an open part has the bytes of its kind
pub open_long : (named : Option Compressed) (p : Part) (bytes : List ℕ) → is_closed p ≡ false → IsCallPart p → IsEncodedPart named p bytes
    → length bytes ≡ part_bytes p
open_long named (Closed i) bytes open_one call h = absurd (cc)
open_long named (Open k i) bytes open_one call h = encoded_long i (width_of k) bytes h
open_long named (Joined k i j) bytes open_one call (first, (second, x, y, whole)) =
    ap length whole ∙ length-append first second ∙ ap (λ n. n + length second) (encoded_long i 4 first x) ∙ ap (λ n. 4 + n) (encoded_long j 4 second y)
    ∙ sym (call_width k (format_of i) (format_of j) call)

-- ---- their operands

parts_valid : (named : Option Compressed) (ps : List Part) (coded : List (List ℕ)) → AreFillable named ps coded → AllByRecursion IsValidPart ps
parts_valid named [] [] h = tt
parts_valid named [] (bytes ∷ coded) h = absurd h
parts_valid named (p ∷ ps) [] h = absurd h
parts_valid named (p ∷ ps) (bytes ∷ coded) (valid, call, own, encoded, hs) = (valid, parts_valid named ps coded hs)

pub all_valid : (named : Option Compressed) (value : FieldValue) (a : ℕ) (ps : List Part) (coded : List (List ℕ)) → AreFillable named ps coded
    → AreTaken value a ps → AllByRecursion IsValid (filled value a ps)
all_valid named value a ps coded h t = filled_valid value a ps (parts_valid named ps coded h) t
