-- An instruction in its least form.

use Rattle.std.proofs.Common.{◌≡◌, ◌↔◌, ◌<◌, ℕ, Bool, true, false, List, [], ◌∷◌, ◌++◌, length, take, slice_index_or, Option, Some, None, refl, sym, ap, ◌∙◌, inl, inr, subst, arith}
use Rattle.std.proofs.lemmas.List.{length-append, map-append}
use Rattle.std.proofs.lemmas.List.Concat.{flat_map-cons}
use Rattle.std.proofs.lemmas.List.Sums.{sum_by-cons}
use Rattle.std.specs.Prelude.{MatchOption, zero, suc, ◌+◌, ◌&&◌, not, is_some, map, if◌then◌else◌}
use Rattle.std.specs.List.{AllByRecursion}
use Rattle.rv_isa.specs.declared.kind.Kind.{Kind}
use Rattle.rv_isa.specs.declared.kind.Kind.TheVariants as kinds
use Rattle.rv_isa.specs.Kinds.{width_of}
use Rattle.rv_isa.specs.declared.instruction.Inst.{Inst}
use Rattle.rv_isa.specs.Ranges.{IsValid}
use Rattle.rv_isa_laws.specs.Bytes.{little_endian}
use Rattle.rv_isa_laws.specs.Word.{form, word}
use Rattle.rv_parcel.specs.declared.form.Compressed.{Compressed}
use Rattle.rv_parcel.specs.Parcel.{IsLine, IsShortOf, StandsFor, parcel, expansion}
use Rattle.rv_parcel.proofs.ReaderLemmas.{stands-valid}
use Rattle.rv_parcel.specs.Encoded.{HasShort, IsEncodedIn}
use Rattle.rv_pseudo_laws.specs.Code.{Part, Closed, Open, Joined}
use Rattle.rv_pseudo_laws.specs.Filled.{are_closed, part_bytes, code_bytes}
use Rattle.rv_pseudo.specs.declared.template.Template.{Template}
use Rattle.rv_assemble_laws.specs.Coded.{joined, part_instructions, instructions_in, IsCodedPart, AreCodedParts}
use Rattle.rv_instruction.specs.declared.encoded.Encoded.{Encoded}
use Rattle.rv_instruction.specs.declared.encoded.Coded.{Coded}
use Rattle.rv_instruction.specs.Code.{encoded_bytes, encoded_instructions, coded_by, instructions_of, whole, shape_by, shape_in, shape_of, call_of, part_by, part_of, parts_in, is_pair, is_short, are_all_closed, IsCodable, AreCodableEach}

pub shortest : (r : Option ℕ) (rvc : Bool) (i : Inst) → rvc ≡ true → ((p : ℕ) → r ≡ Some p ↔ IsShortOf i p)
    → MatchOption r (rvc ≡ true → HasShort i → ⊥) (λ p. (rvc ≡ true) × IsShortOf i p)
shortest None rvc i on exact = λ e (p, short). absurd (let same = (exact p).1 short in cc)
shortest (Some p) rvc i on exact = (on, (exact p).0 refl)

pub as_parcel : (rvc : Bool) (i : Inst) (p : ℕ) → IsValid i → rvc ≡ true → IsShortOf i p → IsCodedPart None rvc (Closed i) (little_endian 2 p)
as_parcel true i p valid on short = (valid, inl (refl, (p, short)), inr (refl, (p, short, refl)))
as_parcel false i p valid on short = absurd (cc)

pub as_word : (rvc : Bool) (i : Inst) (w : ℕ) → IsValid i → (rvc ≡ true → HasShort i → ⊥) → w ≡ word (form i) → IsCodedPart None rvc (Closed i) (little_endian 4 w)
as_word true i w valid none same = (valid, inr (refl, none refl), inl (refl, ap (little_endian 4) same))
as_word false i w valid none same = (valid, refl, inl (refl, ap (little_endian 4) same))

-- the parcel of a form that is named
pub as_named : (f : Compressed) (p : ℕ) → IsLine f → p ≡ parcel f → (c : Bool) → IsCodedPart (Some f) c (Closed (expansion f)) (little_endian 2 p)
as_named f p line same c =
    let stands : StandsFor (parcel f) (expansion f) = record { form = f; spells = record { line = line; sum = refl }; same = refl } in
    (stands-valid (parcel f) (expansion f) stands, refl, (refl, line, refl, ap (little_endian 2) same))

-- ---- with an open field

width_2 : (k : Kind) → is_short k ≡ true → width_of k ≡ 2
width_2 kinds.RvcBranch e = refl
width_2 kinds.RvcJump e = refl
width_2 _ e = absurd (cc)

pub open_parcel : (k : Kind) (i : Inst) (p : ℕ) → IsCodable (Open k i) → is_short k ≡ true → IsShortOf i p → (c : Bool) → IsCodedPart None c (Open k i) (little_endian 2 p)
open_parcel k i p (one, codable) short is c = (one, inr (width_2 k short, (p, is, refl)))

pub no_parcel : (k : Kind) (i : Inst) (r : Option ℕ) (bytes : List ℕ) → IsCodable (Open k i) → is_short k ≡ true → r ≡ None → ((p : ℕ) → r ≡ Some p ↔ IsShortOf i p)
    → (c : Bool) → IsCodedPart None c (Open k i) bytes
no_parcel k i r bytes (one, inl (whole, four)) short none exact c = absurd (cc)
no_parcel k i r bytes (one, inr (two, (p, is))) short none exact c = absurd (let same = (exact p).1 is in cc)

pub open_word : (k : Kind) (i : Inst) (w : ℕ) → IsCodable (Open k i) → is_short k ≡ false → w ≡ word (form i) → (c : Bool) → IsCodedPart None c (Open k i) (little_endian 4 w)
open_word k i w (one, inl (whole, four)) long same c = (one, inl (four, ap (little_endian 4) same))
open_word k i w (one, inr (two, short)) long same c = absurd (cc)

pub open_pair : (i j : Inst) (v w : ℕ) → IsCodable (call_of i j) → v ≡ word (form i) → w ≡ word (form j) → (c : Bool) → IsCodedPart None c (call_of i j) (little_endian 4 v ++ little_endian 4 w)
open_pair i j v w (one, two, eight) first second c =
    (one, two, (little_endian 4 v, (little_endian 4 w, inl (refl, ap (little_endian 4) first), inl (refl, ap (little_endian 4) second), refl)))

-- ---- how many bytes

pub one_instruction : (p : Part) → (shape_of p).instructions ≡ part_instructions p
one_instruction (Closed i) = refl
one_instruction (Open k i) = refl
one_instruction (Joined k i j) = refl

pub sum_both : (a b c d : ℕ) → a ≡ b → c ≡ d → a + c ≡ b + d
sum_both a b c d e f = ap (λ n. n + c) e ∙ ap (λ n. b + n) f

pub encoded_size : (i : Inst) (w : ℕ) (bytes : List ℕ) → IsEncodedIn i w bytes → length bytes ≡ w
encoded_size i w bytes (inl (four, is)) = ap length is ∙ sym four
encoded_size i w bytes (inr (two, (q, short, is))) = ap length is ∙ sym two

part_size : (c : Bool) (p : Part) (bytes : List ℕ) → c ≡ false → IsCodable p → IsCodedPart None c p bytes → length bytes ≡ part_bytes p
part_size true p bytes off codable coded = absurd (cc)
part_size false (Closed i) bytes off codable (valid, least, is) = least
part_size false (Open k i) bytes off codable (one, is) = encoded_size i (width_of k) bytes is
part_size false (Joined k i j) bytes off (valid, other, eight) (one, two, (first, (second, is, also, both))) =
    ap length both ∙ length-append first second ∙ sum_both _ _ _ _ (encoded_size i 4 first is) (encoded_size j 4 second also) ∙ sym eight

pub coded_bytes : (c : Bool) (ps : List Part) (coded : List (List ℕ)) → c ≡ false → AllByRecursion IsCodable ps → AreCodedParts None c ps coded → length (joined coded) ≡ code_bytes ps
coded_bytes c [] [] off codable are = refl
coded_bytes c [] (bytes ∷ coded) off codable are = absurd are
coded_bytes c (p ∷ ps) [] off codable are = absurd are
coded_bytes c (p ∷ ps) (bytes ∷ coded) off (one, rest) (is, are) =
    ap length (flat_map-cons (λ b. b) bytes coded) ∙ length-append bytes (joined coded)
    ∙ sum_both _ _ _ _ (part_size c p bytes off one is) (coded_bytes c ps coded off rest are) ∙ sym (sum_by-cons part_bytes p ps)

pub counted : (ps : List Part) (found : List Coded) → map shape_in found ≡ map shape_of ps → instructions_of found ≡ instructions_in ps
counted [] [] same = refl
counted [] (e ∷ es) same = absurd (cc)
counted (p ∷ ps) [] same = absurd (cc)
counted (p ∷ ps) (e ∷ es) same =
    let one : shape_in e ≡ shape_of p = cc in
    let rest : map shape_in es ≡ map shape_of ps = cc in
    sum_by-cons (λ (x : Coded). encoded_instructions x.encoded) e es
    ∙ sum_both _ _ _ _ (ap (λ s. s.instructions) one ∙ one_instruction p) (counted ps es rest) ∙ sym (sum_by-cons part_instructions p ps)

pub shapes_alone : (i : Inst) (e : Encoded) → encoded_instructions e ≡ 1 → map shape_in (whole e ∷ []) ≡ map shape_of (Closed i ∷ [])
shapes_alone i e one = ap (λ n. shape_by None n ∷ []) one

-- ---- all parts

pub pair_parts : (ts : List Template) (d e : Template) → is_pair ts ≡ true → parts_in ts ≡ call_of (slice_index_or ts 0 d).inst (slice_index_or ts 1 e).inst ∷ []
pair_parts [] d e pair = absurd (cc)
pair_parts (t ∷ []) d e pair = absurd (cc)
pair_parts (t ∷ u ∷ []) d e pair = ap (λ b. if b then call_of t.inst u.inst ∷ [] else part_of t ∷ part_of u ∷ []) pair
pair_parts (t ∷ u ∷ w ∷ ts) d e pair = absurd (cc)

pub each_parts : (ts : List Template) → is_pair ts ≡ false → parts_in ts ≡ map part_of ts
each_parts [] none = refl
each_parts (t ∷ []) none = refl
each_parts (t ∷ u ∷ []) none = ap (λ b. if b then call_of t.inst u.inst ∷ [] else part_of t ∷ part_of u ∷ []) none
each_parts (t ∷ u ∷ w ∷ ts) none = refl

pub each_closed : (ts : List Template) → are_all_closed ts ≡ are_closed (map part_of ts)
each_closed [] = refl
each_closed (t ∷ ts) = one_closed t.inst t.reloc (are_all_closed ts) (each_closed ts)
  where
    one_closed : (i : Inst) (k : Option Kind) (rest : Bool) → rest ≡ are_closed (map part_of ts) → (not (is_some k) && rest) ≡ are_closed (part_by i k ∷ map part_of ts)
    one_closed i None rest e = e
    one_closed i (Some k) rest e = refl

pub each_shapes : (ts : List Template) → map (λ t. shape_of (part_of t)) ts ≡ map shape_of (map part_of ts)
each_shapes [] = refl
each_shapes (t ∷ ts) = ap (λ rest. shape_of (part_of t) ∷ rest) (each_shapes ts)

each_one : (ts : List Template) → AllByRecursion IsCodable (map part_of ts) → AreCodableEach ts
each_one [] codable = codable
each_one (t ∷ ts) (one, rest) = (one, each_one ts rest)

pub each_codable : (ts : List Template) → is_pair ts ≡ false → AllByRecursion IsCodable (parts_in ts) → AreCodableEach ts
each_codable ts none codable = each_one ts (subst (AllByRecursion IsCodable) (each_parts ts none) codable)

pub shape_is : (i : Inst) (k : Option Kind) (e : Encoded) → encoded_instructions e ≡ 1 → shape_by k (encoded_instructions e) ≡ shape_of (part_by i k)
shape_is i None e one = ap (shape_by None) one
shape_is i (Some k) e one = ap (shape_by (Some k)) one

-- as the functions have them
pub pair_made : (c : Bool) (p : Part) (before found : List Coded) (e : Coded) → before ≡ [] → found ≡ before ++ e ∷ [] → IsCodedPart None c p (encoded_bytes e.encoded) → AreCodedParts None c (p ∷ []) (coded_by found)
pair_made c p before found e none made is =
    subst (λ l. AreCodedParts None c (p ∷ []) (coded_by l)) (sym (made ∙ ap (λ l. l ++ e ∷ []) none)) (is, tt)

pub pair_coded : (c : Bool) (ts : List Template) (d e : Template) (coded : List (List ℕ)) → is_pair ts ≡ true
    → AreCodedParts None c (call_of (slice_index_or ts 0 d).inst (slice_index_or ts 1 e).inst ∷ []) coded → AreCodedParts None c (parts_in ts) coded
pair_coded c ts d e coded pair are = subst (λ ps. AreCodedParts None c ps coded) (sym (pair_parts ts d e pair)) are

pub pair_shapes : (ts : List Template) (d e : Template) → is_pair ts ≡ true → d ≡ slice_index_or ts 0 d → e ≡ slice_index_or ts 1 e
    → map shape_of (parts_in ts) ≡ shape_of (call_of d.inst e.inst) ∷ []
pair_shapes ts d e pair first second =
    ap (map shape_of) (pair_parts ts d e pair ∙ ap (λ x. call_of x.inst (slice_index_or ts 1 e).inst ∷ []) (sym first) ∙ ap (λ x. call_of d.inst x.inst ∷ []) (sym second))

pub each_coded : (c : Bool) (ts : List Template) (coded : List (List ℕ)) → is_pair ts ≡ false → AreCodedParts None (c && are_all_closed ts) (map part_of ts) coded
    → AreCodedParts None (c && are_closed (parts_in ts)) (parts_in ts) coded
each_coded c ts coded none are =
    let same = each_parts ts none in
    subst (λ ps. AreCodedParts None (c && are_closed ps) ps coded) (sym same) (subst (λ b. AreCodedParts None (c && b) (map part_of ts) coded) (each_closed ts) are)

-- one instruction more
take_next : (i : ℕ) (ts : List Template) (t : Template) → i < length ts → t ≡ slice_index_or ts i t → take (suc i) ts ≡ take i ts ++ t ∷ []
take_next i [] t below at = absurd (omega arith)
take_next zero (x ∷ xs) t below at = ap (λ y. y ∷ []) (sym at)
take_next (suc i) (x ∷ xs) t below at = ap (λ l. x ∷ l) (take_next i xs t (omega arith) at)

pub shapes_more : (i : ℕ) (ts : List Template) (t : Template) (found : List Coded) (e : Coded) → i < length ts → t ≡ slice_index_or ts i t
    → map shape_in found ≡ map (λ t. shape_of (part_of t)) (take i ts) → shape_in e ≡ shape_of (part_of t)
    → map shape_in (found ++ e ∷ []) ≡ map (λ t. shape_of (part_of t)) (take (suc i) ts)
shapes_more i ts t found e below at so one =
    map-append shape_in found (e ∷ []) ∙ ap (λ l. l ++ shape_in e ∷ []) so ∙ ap (λ x. map (λ t. shape_of (part_of t)) (take i ts) ++ x ∷ []) one
    ∙ sym (map-append (λ t. shape_of (part_of t)) (take i ts) (t ∷ [])) ∙ ap (map (λ t. shape_of (part_of t))) (sym (take_next i ts t below at))

pub coded_more : (rvc : Bool) (i : ℕ) (ts : List Template) (t d : Template) (found : List Coded) (e : Coded) → i < length ts → t ≡ slice_index_or ts i d
    → AreCodedParts None rvc (map part_of (take i ts)) (coded_by found) → IsCodedPart None rvc (part_of t) (encoded_bytes e.encoded)
    → AreCodedParts None rvc (map part_of (take (suc i) ts)) (coded_by (found ++ e ∷ []))
coded_more rvc i [] t d found e below at so one = absurd (omega arith)
coded_more rvc zero (x ∷ xs) t d [] e below at so one = (subst (λ x. IsCodedPart None rvc (part_of x) (encoded_bytes e.encoded)) at one, tt)
coded_more rvc zero (x ∷ xs) t d (f ∷ fs) e below at so one = absurd so
coded_more rvc (suc i) (x ∷ xs) t d [] e below at so one = absurd so
coded_more rvc (suc i) (x ∷ xs) t d (f ∷ fs) e below at (first, so) one = (first, coded_more rvc i xs t d fs e (omega arith) at so one)
