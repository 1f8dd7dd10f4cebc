-- The code of a statement, part by part: its lines, and their bytes, once each open field holds what its operand stands for.

use Rattle.std.proofs.Common.{◌≡◌, ℕ, suc, ◌+◌, ◌%◌, Bool, true, false, List, [], ◌∷◌, ◌++◌, length, map, refl, sym, ap, ◌∙◌, subst, arith, ◌⊎◌, Option, Some, None, inl, inr, length-append}
use Rattle.std.proofs.lemmas.List.{append_assoc, append-nil}
use Rattle.std.proofs.lemmas.List.Sums.{sum_by-cons}
use Rattle.std.specs.Prelude.{⊤, ℤ}
use Rattle.std.specs.List.{AllByRecursion}
use Rattle.rv_isa.specs.declared.instruction.Inst.{Inst}
use Rattle.rv_isa.specs.declared.kind.Kind.{Kind}
use Rattle.rv_isa.specs.declared.kind.Kind.TheVariants.{Relax}
use Rattle.rv_isa.specs.Kinds.{width_of}
use Rattle.rv_isa.specs.Ranges.{IsValid}
use Rattle.rv_isa.specs.Operations.{format_of}
use Rattle.rv_reloc_laws.specs.Fields.{patched}
use Rattle.rv_reloc_laws.specs.Operands.{with_value}
use Rattle.rv_reloc_laws.specs.Ranges.{Takes}
use Rattle.rv_parcel.specs.Encoded.{IsLeast, IsEncodedIn, IsLeastAs, IsEncodedAs}
use Rattle.rv_parcel.specs.declared.form.Compressed.{Compressed}
use Rattle.rv_pseudo_laws.specs.Code.{Part, Closed, Open, Joined}
use Rattle.rv_pseudo_laws.specs.Filled.{FieldValue, filled, are_closed, part_bytes, code_bytes, AreTaken}
use Rattle.rv_pseudo_laws.proofs.FillingLemmas.{filling_valid}
use Rattle.rv_source_laws.specs.Lines.{Line, Lie}
use Rattle.rv_chain_laws.specs.Contents.{AreSized, AreEncoded}
use Rattle.rv_link_laws.specs.Values.{patched_at}
use Rattle.rv_assemble_laws.specs.Coded.{IsCodedPart, AreCodedParts, joined, part_instructions, instructions_in}
use Rattle.rv_assemble_laws.specs.Templates.{Open as OpenField}
use Rattle.rv_filling_theorems.specs.Parts.{fills_call_pair}
use Rattle.rv_filling_theorems.proofs.OneLemmas.{open_filled, call_filled, call_width}
use Rattle.rv_sources_link_theorems.proofs.fields.PatchesLemmas.{patched_here, filled_fields}
pub use Rattle.rv_filling_theorems.specs.Parts.{AreFew}
use Rattle.rv_filling_theorems.proofs.AllLemmas.{encoded_long}

-- ---- the bytes of an instruction

two_or_four : (c : Bool) (i : Inst) (bytes : ℕ) → IsLeast c i bytes → (bytes ≡ 2) ⊎ (bytes ≡ 4)
two_or_four true i bytes (inl h) = inl h.0
two_or_four true i bytes (inr h) = inr h.0
two_or_four false i bytes h = inr h

two_or_four_as : (named : Option Compressed) (c : Bool) (i : Inst) (bytes : ℕ) → IsLeastAs named c i bytes → (bytes ≡ 2) ⊎ (bytes ≡ 4)
two_or_four_as (Some x) c i bytes h = inl h
two_or_four_as None c i bytes h = two_or_four c i bytes h

pub encoded_two_or_four : (i : Inst) (n : ℕ) (bytes : List ℕ) → IsEncodedIn i n bytes → (n ≡ 2) ⊎ (n ≡ 4)
encoded_two_or_four i n bytes (inl (e, w)) = inr e
encoded_two_or_four i n bytes (inr (e, rest)) = inl e

-- ---- how many bytes and instructions

few_more : (count bytes one : ℕ) → (one ≡ 2) ⊎ (one ≡ 4) → AreFew count bytes → AreFew (1 + count) (one + bytes)
few_more count bytes one (inl e) (a, b, c) = (omega (arith, a, e), omega (arith, b, e), (let f : (one + bytes) % 2 ≡ 0 = omega (arith, c, e) in f))
few_more count bytes one (inr e) (a, b, c) = (omega (arith, a, e), omega (arith, b, e), (let f : (one + bytes) % 2 ≡ 0 = omega (arith, c, e) in f))

few_two : (count bytes two : ℕ) → two ≡ 8 → AreFew count bytes → AreFew (2 + count) (two + bytes)
few_two count bytes two e (a, b, c) = (omega (arith, a, e), omega (arith, b, e), (let f : (two + bytes) % 2 ≡ 0 = omega (arith, c, e) in f))

pub joined_long : (i j : Inst) (bytes first second : List ℕ) → IsEncodedIn i 4 first → IsEncodedIn j 4 second → bytes ≡ first ++ second → length bytes ≡ 8
joined_long i j bytes first second x y e =
    let a : length first ≡ 4 = encoded_long i 4 first x in
    let b : length second ≡ 4 = encoded_long j 4 second y in
    ap length e ∙ length-append first second ∙ omega (arith, a, b)

pub all_few : (named : Option Compressed) (c : Bool) (ps : List Part) (coded : List (List ℕ)) → AreCodedParts named c ps coded → AreFew (instructions_in ps) (length (joined coded))
all_few named c [] [] h = (omega arith, omega arith, refl)
all_few named c [] (bytes ∷ coded) h = absurd h
all_few named c (p ∷ ps) [] h = absurd h
all_few named c (Closed i ∷ ps) (bytes ∷ coded) (h, hs) =
    subst (AreFew (instructions_in (Closed i ∷ ps))) (sym (length-append bytes (joined coded)))
    (subst (λ n. AreFew n (length bytes + length (joined coded))) (sym (sum_by-cons part_instructions (Closed i) ps))
    (few_more (instructions_in ps) (length (joined coded)) (length bytes) (two_or_four_as named c i (length bytes) h.1) (all_few named c ps coded hs)))
all_few named c (Open k i ∷ ps) (bytes ∷ coded) (h, hs) =
    let long : length bytes ≡ width_of k = encoded_long i (width_of k) bytes h.1 in
    subst (AreFew (instructions_in (Open k i ∷ ps))) (sym (length-append bytes (joined coded)))
    (subst (λ n. AreFew n (length bytes + length (joined coded))) (sym (sum_by-cons part_instructions (Open k i) ps))
    (few_more (instructions_in ps) (length (joined coded)) (length bytes)
    (subst (λ n. (n ≡ 2) ⊎ (n ≡ 4)) (sym long) (encoded_two_or_four i (width_of k) bytes h.1)) (all_few named c ps coded hs)))
all_few named c (Joined k i j ∷ ps) (bytes ∷ coded) ((fits, also, (first, (second, x, y, e))), hs) =
    subst (AreFew (instructions_in (Joined k i j ∷ ps))) (sym (length-append bytes (joined coded)))
    (subst (λ n. AreFew n (length bytes + length (joined coded))) (sym (sum_by-cons part_instructions (Joined k i j) ps))
    (few_two (instructions_in ps) (length (joined coded)) (length bytes) (joined_long i j bytes first second x y e) (all_few named c ps coded hs)))

-- ---- the code of a statement with its fields filled

-- the bytes of parts from an offset on, where a field at an offset takes a value
abbrev pub coded_bytes : (ℕ → OpenField → ℤ) → (Part → List OpenField) → ℕ → List Part → List (List ℕ) → List ℕ
coded_bytes v fields offset [] coded = []
coded_bytes v fields offset (p ∷ ps) [] = []
coded_bytes v fields offset (p ∷ ps) (bytes ∷ coded) =
    filled_fields (v offset) (fields p) bytes ++ coded_bytes v fields (offset + length bytes) ps coded

one_more : (n : ℕ) → 1 + n ≡ suc n
one_more n = omega arith

two_more : (n : ℕ) → 2 + n ≡ suc (suc n)
two_more n = omega arith

closed_long : (named : Option Compressed) (c : Bool) (i : Inst) (bytes : ℕ) → IsLeastAs named c i bytes → (named ≡ None) × (c ≡ false) → bytes ≡ 4
closed_long (Some x) c i bytes h w = absurd (cc w.0)
closed_long None true i bytes h w = absurd (cc w.1)
closed_long None false i bytes h w = h

call_long : (k : Kind) (i j : Inst) (bytes : List ℕ) → IsCodedPart None false (Joined k i j) bytes → fills_call_pair k (format_of i) (format_of j) ≡ true → length bytes ≡ width_of k
call_long k i j bytes (fits, also, (first, (second, x, y, is))) call =
    joined_long i j bytes first second x y is ∙ sym (call_width k (format_of i) (format_of j) call)

whole_by : (p : Part) (ps : List Part) (bytes : List ℕ) (coded : List (List ℕ)) → length bytes ≡ part_bytes p → length (joined coded) ≡ code_bytes ps
    → length (joined (bytes ∷ coded)) ≡ code_bytes (p ∷ ps)
whole_by p ps bytes coded own rest =
    length-append bytes (joined coded) ∙ ap (λ n. n + length (joined coded)) own ∙ ap (λ n. part_bytes p + n) rest ∙ sym (sum_by-cons part_bytes p ps)

module _ (v : ℕ → OpenField → ℤ) (fields : Part → List OpenField) (value : FieldValue) where
  -- the first field of a part takes at an offset what a kind takes at an address; others change nothing
  pub record IsFilledBy (k : Kind) (offset a : ℕ) (fs : List OpenField) : Type 0 where
    pub field : OpenField
    pub others : List OpenField
    pub are : fs ≡ field ∷ others
    pub kind : field.kind ≡ k
    pub relaxes : AllByRecursion (λ (f : OpenField). f.kind ≡ Relax) others
    pub worth : v offset field ≡ value k a
    pub takes : Takes k (value k a)

  abbrev pub IsFilledPart : (offset a : ℕ) → Part → Type 0
  IsFilledPart offset a (Closed i) = fields (Closed i) ≡ []
  IsFilledPart offset a (Open k i) = IsFilledBy k offset a (fields (Open k i))
  IsFilledPart offset a (Joined k i j) = (fills_call_pair k (format_of i) (format_of j) ≡ true) × IsFilledBy k offset a (fields (Joined k i j))

  abbrev pub AreFilledParts : (offset a : ℕ) → List Part → List (List ℕ) → Type 0
  AreFilledParts offset a [] coded = ⊤
  AreFilledParts offset a (p ∷ ps) [] = ⊤
  AreFilledParts offset a (p ∷ ps) (bytes ∷ coded) =
      IsFilledPart offset a p × AreFilledParts (offset + length bytes) (a + length bytes) ps coded

  -- relaxation alone changes no bytes
  relaxed : (w : OpenField → ℤ) (fs : List OpenField) (bytes : List ℕ) → AllByRecursion (λ (f : OpenField). f.kind ≡ Relax) fs → filled_fields w fs bytes ≡ bytes
  relaxed w [] bytes h = refl
  relaxed w (f ∷ fs) bytes (h, hs) =
      ap (λ k. filled_fields w fs (patched_at 0 k (w f) bytes)) h ∙ ap (filled_fields w fs) (nothing bytes (w f)) ∙ relaxed w fs bytes hs
    where
      nothing : (bs : List ℕ) (z : ℤ) → patched_at 0 Relax z bs ≡ bs
      nothing [] z = refl
      nothing (b ∷ bs) z = refl

  filled_is : (k : Kind) (offset a : ℕ) (fs : List OpenField) (bytes : List ℕ) (h : IsFilledBy k offset a fs) → length bytes ≡ width_of k
      → filled_fields (v offset) fs bytes ≡ patched k (value k a) bytes
  filled_is k offset a fs bytes h long =
      ap (λ l. filled_fields (v offset) l bytes) h.are
      ∙ relaxed (v offset) h.others (patched_at 0 h.field.kind (v offset h.field) bytes) h.relaxes
      ∙ ap (λ q. patched_at 0 q (v offset h.field) bytes) h.kind
      ∙ ap (λ z. patched_at 0 k z bytes) h.worth
      ∙ ap (patched_at 0 k (value k a)) (sym (append-nil bytes)) ∙ patched_here [] bytes [] k (value k a) long
      ∙ append-nil (patched k (value k a) bytes)

  -- ---- lines

  -- the lines of parts from an address on
  abbrev pub lines_of : ℕ → List Part → List (List ℕ) → List Line
  lines_of a [] coded = []
  lines_of a (p ∷ ps) [] = []
  lines_of a (Closed i ∷ ps) (bytes ∷ coded) =
      record { address = a; bytes = length bytes; instruction = i } ∷ lines_of (a + length bytes) ps coded
  lines_of a (Open k i ∷ ps) (bytes ∷ coded) =
      record { address = a; bytes = width_of k; instruction = with_value (value k a) i } ∷ lines_of (a + length bytes) ps coded
  lines_of a (Joined k i j ∷ ps) (bytes ∷ coded) =
      record { address = a; bytes = 4; instruction = with_value (value k a) i }
      ∷ record { address = a + 4; bytes = 4; instruction = with_value (value k a) j } ∷ lines_of (a + length bytes) ps coded

  pub lines_lie : (a stop : ℕ) (named : Option Compressed) (c : Bool) (ps : List Part) (coded : List (List ℕ)) → AreCodedParts named c ps coded → a + length (joined coded) ≡ stop → Lie a (lines_of a ps coded) stop
  lines_lie a stop named c [] [] h e = (let f : a ≡ stop = omega (arith, e) in f)
  lines_lie a stop named c [] (bytes ∷ coded) h e = absurd h
  lines_lie a stop named c (p ∷ ps) [] h e = absurd h
  lines_lie a stop named c (Closed i ∷ ps) (bytes ∷ coded) (h, hs) e =
      let whole : length (bytes ++ joined coded) ≡ length bytes + length (joined coded) = length-append bytes (joined coded) in
      (refl, lines_lie (a + length bytes) stop named c ps coded hs (omega (arith, e, whole)))
  lines_lie a stop named c (Open k i ∷ ps) (bytes ∷ coded) (h, hs) e =
      let whole : length (bytes ++ joined coded) ≡ length bytes + length (joined coded) = length-append bytes (joined coded) in
      let long : length bytes ≡ width_of k = encoded_long i (width_of k) bytes h.1 in
      (refl, subst (λ n. Lie (a + n) (lines_of (a + length bytes) ps coded) stop) long (lines_lie (a + length bytes) stop named c ps coded hs (omega (arith, e, whole))))
  lines_lie a stop named c (Joined k i j ∷ ps) (bytes ∷ coded) ((fits, also, (first, (second, x, y, is))), hs) e =
      let whole : length (bytes ++ joined coded) ≡ length bytes + length (joined coded) = length-append bytes (joined coded) in
      let long : length bytes ≡ 8 = joined_long i j bytes first second x y is in (
        refl,
        (
          refl,
          subst (λ n. Lie n (lines_of (a + length bytes) ps coded) stop) (let f : a + length bytes ≡ a + 4 + 4 = omega (arith, long) in f)
              (lines_lie (a + length bytes) stop named c ps coded hs (omega (arith, e, whole))),
        ),
      )

  pub lines_sized : (a : ℕ) (named : Option Compressed) (c : Bool) (ps : List Part) (coded : List (List ℕ)) → AreCodedParts named c ps coded → (are_closed ps ≡ true) ⊎ ((named ≡ None) × (c ≡ false)) → AreSized named c ps (lines_of a ps coded)
  lines_sized a named c [] [] h w = tt
  lines_sized a named c [] (bytes ∷ coded) h w = absurd h
  lines_sized a named c (p ∷ ps) [] h w = absurd h
  lines_sized a named c (Closed i ∷ ps) (bytes ∷ coded) (h, hs) w = (h.1, lines_sized (a + length bytes) named c ps coded hs w)
  lines_sized a named c (Open k i ∷ ps) (bytes ∷ coded) (h, hs) (inl w) = absurd (cc)
  lines_sized a named c (Open k i ∷ ps) (bytes ∷ coded) (h, hs) (inr w) = (refl, lines_sized (a + length bytes) named c ps coded hs (inr w))
  lines_sized a named c (Joined k i j ∷ ps) (bytes ∷ coded) (h, hs) (inl w) = absurd (cc)
  lines_sized a named c (Joined k i j ∷ ps) (bytes ∷ coded) (h, hs) (inr w) = (refl, refl, lines_sized (a + length bytes) named c ps coded hs (inr w))

  -- the bytes of a part, and those of the parts after it
  pub lines_encoded : (offset a : ℕ) (named : Option Compressed) (c : Bool) (ps : List Part) (coded : List (List ℕ)) → AreCodedParts named c ps coded → AreFilledParts offset a ps coded → (are_closed ps ≡ true) ⊎ ((named ≡ None) × (c ≡ false))
      → AreEncoded named (lines_of a ps coded) (coded_bytes v fields offset ps coded)
  lines_encoded offset a named c [] [] h f w = refl
  lines_encoded offset a named c [] (bytes ∷ coded) h f w = absurd h
  lines_encoded offset a named c (p ∷ ps) [] h f w = absurd h
  lines_encoded offset a named c (Closed i ∷ ps) (bytes ∷ coded) (h, hs) (f, fs) w =
      let rest = coded_bytes v fields (offset + length bytes) ps coded in
      (bytes, (rest, ap (λ l. filled_fields (v offset) l bytes ++ rest) f, h.2, lines_encoded (offset + length bytes) (a + length bytes) named c ps coded hs fs w))
  lines_encoded offset a named c (Open k i ∷ ps) (bytes ∷ coded) (h, hs) (f, fs) (inl w) = absurd (cc)
  lines_encoded offset a named c (Open k i ∷ ps) (bytes ∷ coded) (h, hs) (f, fs) (inr w) =
      let rest = coded_bytes v fields (offset + length bytes) ps coded in
      let is = filled_is k offset a (fields (Open k i)) bytes f (encoded_long i (width_of k) bytes h.1) in (
        patched k (value k a) bytes,
        (
          rest,
          ap (λ l. l ++ rest) is,
          subst (λ n. IsEncodedAs n (with_value (value k a) i) (width_of k) (patched k (value k a) bytes)) (sym w.0) (open_filled k (value k a) i bytes h.0 f.takes h.1),
          lines_encoded (offset + length bytes) (a + length bytes) named c ps coded hs fs (inr w),
        ),
      )
  lines_encoded offset a named c (Joined k i j ∷ ps) (bytes ∷ coded) (h, hs) ((call, f), fs) (inl w) = absurd (cc)
  lines_encoded offset a named c (Joined k i j ∷ ps) (bytes ∷ coded) (h, hs) ((call, f), fs) (inr w) =
      let rest = coded_bytes v fields (offset + length bytes) ps coded in
      let is = filled_is k offset a (fields (Joined k i j)) bytes f (call_long k i j bytes h call) in
      let (front, (next, x, y, both)) = call_filled k (value k a) i j bytes h.0 h.1 call f.takes h.2 in (
        front,
        (
          next ++ rest,
          ap (λ l. l ++ rest) (is ∙ both) ∙ append_assoc front next rest,
          subst (λ n. IsEncodedAs n (with_value (value k a) i) 4 front) (sym w.0) x,
          (next, (rest, refl, subst (λ n. IsEncodedAs n (with_value (value k a) j) 4 next) (sym w.0) y, lines_encoded (offset + length bytes) (a + length bytes) named c ps coded hs fs (inr w))),
        ),
      )

  -- ---- their instructions

  pub lines_say : (a : ℕ) (named : Option Compressed) (c : Bool) (ps : List Part) (coded : List (List ℕ)) → AreCodedParts named c ps coded → (offset : ℕ) → AreFilledParts offset a ps coded
      → (named ≡ None) × (c ≡ false) → filled value a ps ≡ map (λ l. l.instruction) (lines_of a ps coded)
  lines_say a named c [] [] h offset f w = refl
  lines_say a named c [] (bytes ∷ coded) h offset f w = absurd h
  lines_say a named c (p ∷ ps) [] h offset f w = absurd h
  lines_say a named c (Closed i ∷ ps) (bytes ∷ coded) (h, hs) offset (f, fs) w =
      let long : length bytes ≡ 4 = closed_long named c i (length bytes) h.1 w in
      ap (λ n. i ∷ filled value (a + n) ps) (sym long) ∙ ap (λ l. i ∷ l) (lines_say (a + length bytes) named c ps coded hs (offset + length bytes) fs w)
  lines_say a named c (Open k i ∷ ps) (bytes ∷ coded) (h, hs) offset (f, fs) w =
      let long : length bytes ≡ width_of k = encoded_long i (width_of k) bytes h.1 in
      let own = with_value (value k a) i in
      ap (λ n. own ∷ filled value (a + n) ps) (sym long) ∙ ap (λ l. own ∷ l) (lines_say (a + length bytes) named c ps coded hs (offset + length bytes) fs w)
  lines_say a named c (Joined k i j ∷ ps) (bytes ∷ coded) (h, hs) offset ((call, f), fs) w =
      let long : length bytes ≡ width_of k = call_long k i j bytes h call in
      let own = with_value (value k a) i in
      let next = with_value (value k a) j in
      ap (λ n. own ∷ next ∷ filled value (a + n) ps) (sym long) ∙ ap (λ l. own ∷ next ∷ l) (lines_say (a + length bytes) named c ps coded hs (offset + length bytes) fs w)

  -- where all are closed nothing depends on addresses
  pub closed_say : (a b : ℕ) (named : Option Compressed) (c : Bool) (ps : List Part) (coded : List (List ℕ)) → AreCodedParts named c ps coded → are_closed ps ≡ true
      → filled value a ps ≡ map (λ l. l.instruction) (lines_of b ps coded)
  closed_say a b named c [] [] h w = refl
  closed_say a b named c [] (bytes ∷ coded) h w = absurd h
  closed_say a b named c (p ∷ ps) [] h w = absurd h
  closed_say a b named c (Closed i ∷ ps) (bytes ∷ coded) (h, hs) w = ap (λ l. i ∷ l) (closed_say (a + 4) (b + length bytes) named c ps coded hs w)
  closed_say a b named c (Open k i ∷ ps) (bytes ∷ coded) (h, hs) w = absurd (cc)
  closed_say a b named c (Joined k i j ∷ ps) (bytes ∷ coded) (h, hs) w = absurd (cc)

  pub lines_valid : (offset a : ℕ) (named : Option Compressed) (c : Bool) (ps : List Part) (coded : List (List ℕ)) → AreCodedParts named c ps coded → AreFilledParts offset a ps coded
      → AllByRecursion IsValid (map (λ l. l.instruction) (lines_of a ps coded))
  lines_valid offset a named c [] [] h f = tt
  lines_valid offset a named c [] (bytes ∷ coded) h f = absurd h
  lines_valid offset a named c (p ∷ ps) [] h f = absurd h
  lines_valid offset a named c (Closed i ∷ ps) (bytes ∷ coded) (h, hs) (f, fs) = (h.0, lines_valid (offset + length bytes) (a + length bytes) named c ps coded hs fs)
  lines_valid offset a named c (Open k i ∷ ps) (bytes ∷ coded) (h, hs) (f, fs) =
      (filling_valid k (value k a) i h.0 f.takes, lines_valid (offset + length bytes) (a + length bytes) named c ps coded hs fs)
  lines_valid offset a named c (Joined k i j ∷ ps) (bytes ∷ coded) (h, hs) ((call, f), fs) =
      (filling_valid k (value k a) i h.0 f.takes, (filling_valid k (value k a) j h.1 f.takes, lines_valid (offset + length bytes) (a + length bytes) named c ps coded hs fs))

  pub lines_counted : (a : ℕ) (named : Option Compressed) (c : Bool) (ps : List Part) (coded : List (List ℕ)) → AreCodedParts named c ps coded
      → instructions_in ps ≡ length (map (λ l. l.instruction) (lines_of a ps coded))
  lines_counted a named c [] [] h = refl
  lines_counted a named c [] (bytes ∷ coded) h = absurd h
  lines_counted a named c (p ∷ ps) [] h = absurd h
  lines_counted a named c (Closed i ∷ ps) (bytes ∷ coded) (h, hs) =
      sum_by-cons part_instructions (Closed i) ps ∙ one_more (instructions_in ps) ∙ ap suc (lines_counted (a + length bytes) named c ps coded hs)
  lines_counted a named c (Open k i ∷ ps) (bytes ∷ coded) (h, hs) =
      sum_by-cons part_instructions (Open k i) ps ∙ one_more (instructions_in ps) ∙ ap suc (lines_counted (a + length bytes) named c ps coded hs)
  lines_counted a named c (Joined k i j ∷ ps) (bytes ∷ coded) (h, hs) =
      sum_by-cons part_instructions (Joined k i j) ps ∙ two_more (instructions_in ps) ∙ ap (λ n. suc (suc n)) (lines_counted (a + length bytes) named c ps coded hs)

  -- ---- what the fields take

  pub lines_taken : (offset a : ℕ) (named : Option Compressed) (c : Bool) (ps : List Part) (coded : List (List ℕ)) → AreCodedParts named c ps coded → AreFilledParts offset a ps coded → (named ≡ None) × (c ≡ false) → AreTaken value a ps
  lines_taken offset a named c [] [] h f w = tt
  lines_taken offset a named c [] (bytes ∷ coded) h f w = absurd h
  lines_taken offset a named c (p ∷ ps) [] h f w = absurd h
  lines_taken offset a named c (Closed i ∷ ps) (bytes ∷ coded) (h, hs) (f, fs) w =
      (tt, subst (λ n. AreTaken value (a + n) ps) (closed_long named c i (length bytes) h.1 w) (lines_taken (offset + length bytes) (a + length bytes) named c ps coded hs fs w))
  lines_taken offset a named c (Open k i ∷ ps) (bytes ∷ coded) (h, hs) (f, fs) w =
      (f.takes, subst (λ n. AreTaken value (a + n) ps) (encoded_long i (width_of k) bytes h.1) (lines_taken (offset + length bytes) (a + length bytes) named c ps coded hs fs w))
  lines_taken offset a named c (Joined k i j ∷ ps) (bytes ∷ coded) (h, hs) ((call, f), fs) w =
      (f.takes, subst (λ n. AreTaken value (a + n) ps) (call_long k i j bytes h call) (lines_taken (offset + length bytes) (a + length bytes) named c ps coded hs fs w))

  pub closed_taken : (a : ℕ) (ps : List Part) → are_closed ps ≡ true → AreTaken value a ps
  closed_taken a [] w = tt
  closed_taken a (Closed i ∷ ps) w = (tt, closed_taken (a + 4) ps w)
  closed_taken a (Open k i ∷ ps) w = absurd (cc)
  closed_taken a (Joined k i j ∷ ps) w = absurd (cc)

  -- the bytes that the kinds of its fields say
  pub lines_whole : (offset a : ℕ) (named : Option Compressed) (c : Bool) (ps : List Part) (coded : List (List ℕ)) → AreCodedParts named c ps coded → AreFilledParts offset a ps coded → (named ≡ None) × (c ≡ false)
      → length (joined coded) ≡ code_bytes ps
  lines_whole offset a named c [] [] h f w = refl
  lines_whole offset a named c [] (bytes ∷ coded) h f w = absurd h
  lines_whole offset a named c (p ∷ ps) [] h f w = absurd h
  lines_whole offset a named c (Closed i ∷ ps) (bytes ∷ coded) (h, hs) (f, fs) w =
      whole_by (Closed i) ps bytes coded (closed_long named c i (length bytes) h.1 w) (lines_whole (offset + length bytes) (a + length bytes) named c ps coded hs fs w)
  lines_whole offset a named c (Open k i ∷ ps) (bytes ∷ coded) (h, hs) (f, fs) w =
      whole_by (Open k i) ps bytes coded (encoded_long i (width_of k) bytes h.1) (lines_whole (offset + length bytes) (a + length bytes) named c ps coded hs fs w)
  lines_whole offset a named c (Joined k i j ∷ ps) (bytes ∷ coded) (h, hs) ((call, f), fs) w =
      whole_by (Joined k i j) ps bytes coded (call_long k i j bytes h call) (lines_whole (offset + length bytes) (a + length bytes) named c ps coded hs fs w)
