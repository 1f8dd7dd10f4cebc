-- Each call that relaxation shortens reaches where its text is placed.

use Rattle.std.proofs.Common.{◌≡◌, ℕ, zero, suc, ◌+◌, ◌%◌, ◌^◌, ◌<◌, ◌≤◌, ◌⊎◌, inl, inr, Bool, true, false, cond, List, [], ◌∷◌, ◌++◌, length, Some, slice_index, refl, ap, subst, ◌∙◌, arith}
use Rattle.std.specs.Prelude.{◌==◌, IsTrue, if◌then◌else◌}
use Rattle.std.specs.List.{AllByRecursion, slice_get}
use Rattle.std.proofs.lemmas.Bool.{and_parts, and_from, eq-eqb, eqb-true, ne_eqb}
use Rattle.rv_size_laws.specs.Sites.{size_at}
use Rattle.rv_size_laws.specs.declared.site.Site.{Site}
use Rattle.rv_size_laws.specs.declared.site.SiteKind.{SiteKind}
use Rattle.rv_size_laws.specs.declared.site.SiteKind.TheVariants.{Call, Padding}
use Rattle.rv_size_laws.specs.Calls.{site_at, bytes_of, InOrder, is_call as is_call_site}
use Rattle.rv_size_laws.proofs.ShorteningLemmas.{before_all}
use Rattle.rv_object_laws.specs.Object.{Section, Object, size_of}
use Rattle.rv_object_laws.specs.Valid.{is_even, is_section_alignment, are_paddings, fit_inside}
use Rattle.rv_link_laws.specs.declared.bounds.Ground.{Ground}
use Rattle.rv_link_laws.specs.Inputs.{InputSection, goes_to_text, inputs_from, inputs_of, inputs}
use Rattle.rv_link_laws.specs.Moves.{moves, new_offset}
use Rattle.rv_object_laws.specs.Whole.{IsWholeSection, IsWhole}
use Rattle.rv_link_laws.specs.Lists.{In}
use Rattle.rv_link_laws.specs.Layout.{Layout, IsLayout, section_in, object_section}
use Rattle.rv_cut_laws.proofs.ChangesLemmas as changed
use Rattle.rv_cut_laws.proofs.LineLemmas.{Later}
use Rattle.rv_unique_theorems.specs.Asked.{IsSound}
use Rattle.rv_unique_theorems.proofs.FoundLemmas.{EachOf, all_of}
use Rattle.rv_reach_theorems.proofs.LinesLemmas.{Ordered}

-- ---- what whole objects keep

parts_all : (P : Section → Type 0) → ((s : Section) → IsWholeSection s → P s) → (ss : List Section) → AllByRecursion IsWholeSection ss → AllByRecursion P ss
parts_all P each [] h = tt
parts_all P each (s ∷ ss) (own, h) = (each s own, parts_all P each ss h)

pub sounds : (os : List Object) → AllByRecursion IsWhole os → AllByRecursion IsSound os
sounds [] h = tt
sounds (o ∷ os) (own, h) = (
  record {
    alignments = parts_all (λ s. IsTrue (is_section_alignment s.alignment)) (λ s x. x.aligned) o.sections own.sections;
    inside = parts_all (λ s. IsTrue (fit_inside s.contents s.relocations)) (λ s x. x.inside) o.sections own.sections;
    paddings = parts_all (λ s. IsTrue (are_paddings s.executable s.contents s.relocations)) (λ s x. x.paddings) o.sections own.sections;
    rows = own.lie;
  },
  sounds os h,
)

abbrev pub IsEvenCode : InputSection → Type 0
IsEvenCode i = size_of i.section.contents % 2 ≡ 0

even_code : (s : Section) → IsTrue (is_even s.executable s.contents) → goes_to_text s ≡ true → size_of s.contents % 2 ≡ 0
even_code s even text = by s.executable (and_parts s.loaded s.executable text).1 even
  where
    by : (b : Bool) → b ≡ true → is_even b s.contents ≡ true → size_of s.contents % 2 ≡ 0
    by true e h = eqb-true (size_of s.contents % 2) 0 h
    by false e h = absurd (cc)

evens_from : (file : ℕ) (o : Object) (index : ℕ) (ss : List Section) → AllByRecursion IsWholeSection ss → AllByRecursion IsEvenCode (inputs_from goes_to_text file o index ss)
evens_from file o index [] h = tt
evens_from file o index (s ∷ ss) (own, h) = go (goes_to_text s) refl (evens_from file o (suc index) ss h)
  where
    rest : List InputSection
    rest = inputs_from goes_to_text file o (suc index) ss

    go : (b : Bool) → goes_to_text s ≡ b → AllByRecursion IsEvenCode rest → AllByRecursion IsEvenCode (if b then record { file = file; object = o; index = index; section = s } ∷ rest else rest)
    go true e more = (even_code s own.even e, more)
    go false e more = more

all_join : (P : InputSection → Type 0) (xs ys : List InputSection) → AllByRecursion P xs → AllByRecursion P ys → AllByRecursion P (xs ++ ys)
all_join P [] ys h k = k
all_join P (x ∷ xs) ys (one, h) k = (one, all_join P xs ys h k)

pub evens : (file : ℕ) (os : List Object) → AllByRecursion IsWhole os → AllByRecursion IsEvenCode (inputs_of goes_to_text file os)
evens file [] h = tt
evens file (o ∷ os) (own, h) =
    all_join IsEvenCode (inputs_from goes_to_text file o 0 o.sections) (inputs_of goes_to_text (suc file) os) (evens_from file o 0 o.sections own.sections) (evens (suc file) os h)

-- ---- the sections stand in the order of their files

lower : (f x g y : ℕ) (is : List InputSection) → Later f x g y → Ordered g y is → Ordered f x is
lower f x g y [] later h = tt
lower f x g y (i ∷ is) later (one, h) = (go later one, h)
  where
    go : Later f x g y → Later g y i.file i.index → Later f x i.file i.index
    go (inl a) (inl b) = inl (omega (arith, a, b))
    go (inl a) (inr b) = let same = b.0 in inl (omega (arith, a, same))
    go (inr a) (inl b) = let same = a.0 in inl (omega (arith, b, same))
    go (inr a) (inr b) = let p = a.1 in let q = b.1 in inr (a.0 ∙ b.0, omega (arith, p, q))

ordered_from : (f x file : ℕ) (o : Object) (index : ℕ) (ss : List Section) (tail : List InputSection) → Later f x file index → Ordered (suc file) 0 tail → Ordered f x (inputs_from goes_to_text file o index ss ++ tail)
ordered_from f x file o index [] tail later h = lower f x (suc file) 0 tail (inl (go later)) h
  where
    go : Later f x file index → f < suc file
    go (inl a) = omega (arith, a)
    go (inr a) = let same = a.0 in omega (arith, same)
ordered_from f x file o index (s ∷ ss) tail later h =
    by (goes_to_text s) (ordered_from file (suc index) file o (suc index) ss tail (inr (refl, omega arith)) h) (ordered_from f x file o (suc index) ss tail (next later) h)
  where
    next : Later f x file index → Later f x file (suc index)
    next (inl a) = inl a
    next (inr a) = let le = a.1 in inr (a.0, omega (arith, le))

    own : InputSection
    own = record { file = file; object = o; index = index; section = s }

    by : (b : Bool) → Ordered file (suc index) (inputs_from goes_to_text file o (suc index) ss ++ tail) → Ordered f x (inputs_from goes_to_text file o (suc index) ss ++ tail)
        → Ordered f x ((if b then own ∷ inputs_from goes_to_text file o (suc index) ss else inputs_from goes_to_text file o (suc index) ss) ++ tail)
    by true with_own without = (later, with_own)
    by false with_own without = without

pub ordered_all : (file : ℕ) (us : List Object) → Ordered file 0 (inputs_of goes_to_text file us)
ordered_all file [] = tt
ordered_all file (o ∷ us) = ordered_from file 0 file o 0 o.sections (inputs_of goes_to_text (suc file) us) (inr (refl, omega arith)) (ordered_all (suc file) us)

-- ---- lists

pub index_of : (x : Site) (xs : List Site) → In x xs → (k : ℕ) × (k < length xs) × (site_at xs k ≡ x)
index_of x [] i = elim i [ ]
index_of x (y ∷ ys) (inl same) = (0, omega arith, same)
index_of x (y ∷ ys) (inr i) = let rest = index_of x ys i in let less = rest.1 in (suc rest.0, omega (arith, less), rest.2)

pub in_at : {X : Type 0} (xs : List X) (k : ℕ) (x : X) → slice_get xs k ≡ Some x → In x xs
in_at [] k x e = absurd (cc)
in_at (y ∷ ys) zero x e = inl (let same : y ≡ x = cc in same)
in_at (y ∷ ys) (suc k) x e = inr (in_at ys k x e)

-- a family keeps of a call what is found at its offset
pub kept_here : (from : ℕ) (ss : List Site) (ks : List ℕ) → InOrder from ss → length ks ≡ length ss → (k : ℕ) → k < length ss → is_call_site (site_at ss k).kind ≡ true
    → size_at ss ks (site_at ss k).offset ≡ slice_index ks k
kept_here from [] ks order many k less call = absurd (omega (arith, less))
kept_here from (s ∷ ss) [] order many k less call = absurd (omega (arith, many))
kept_here from (s ∷ ss) (n ∷ ks) order many zero less call =
    ap (λ b. cond b n (size_at ss ks s.offset)) (and_from (is_call_site s.kind) (s.offset == s.offset) call (eq-eqb s.offset s.offset refl))
kept_here from (s ∷ ss) (n ∷ ks) order many (suc k) less call =
    changed.passed_by s n ss ks (site_at ss k).offset (go (is_call_site s.kind) refl)
    ∙ kept_here (s.offset + bytes_of s.kind) ss ks order.1 (omega (arith, many)) k (omega (arith, less)) call
  where
    none : 1 ≤ 0 → ⊥
    none le = absurd (omega (arith, le))

    eight : (kind : SiteKind) → is_call_site kind ≡ true → bytes_of kind ≡ 8
    eight (Call call) e = refl
    eight (Padding padding) e = absurd (cc)

    go : (b : Bool) → is_call_site s.kind ≡ b → (is_call_site s.kind ≡ false) ⊎ ((s.offset == (site_at ss k).offset) ≡ false)
    go false e = inl e
    go true e =
        let far = before_all ss (s.offset + bytes_of s.kind) order.1 k (omega (arith, less)) in
        let size = eight s.kind e in
        inr (ne_eqb s.offset (site_at ss k).offset (λ same. none (omega (arith, far, size, same))))

-- ---- bytes have addresses

abbrev IsLowAt : ℕ → Section → Type 0
IsLowAt start s = (size_of s.contents < 2 ^ 64) × (start + new_offset (moves start s) (size_of s.contents) < 2 ^ 64)

abbrev pub IsLow : Layout → InputSection → Type 0
IsLow p i = IsLowAt (p.starts i.file i.index) i.section

module _ (left : List Object) (bounds : Ground) (p : Layout) (placed : IsLayout left bounds p) where
  low_at : (file index : ℕ) (s : Section) → object_section left file index ≡ Some s → IsLowAt (p.starts (suc file) index) s
  low_at file index s there = subst (λ n. IsLowAt n s) (ap (λ k. p.starts k index) (let same : file + 1 ≡ suc file = omega arith in same)) (placed.low file index s there)

  lows_from : (file : ℕ) (us : List Object) → ((k : ℕ) → slice_get left (file + k) ≡ slice_get us k) → EachOf goes_to_text (IsLow p) (suc file) us
  lows_from file [] there = tt
  lows_from file (o ∷ us) there = (
    λ index s at text. low_at file index s (ap (λ x. section_in x index) (ap (slice_get left) (let e : file ≡ file + 0 = omega arith in e) ∙ there 0) ∙ at),
    lows_from (suc file) us (λ k. ap (slice_get left) (let e : suc file + k ≡ file + suc k = omega arith in e) ∙ there (suc k)),
  )

  pub lows : AllByRecursion (IsLow p) (inputs goes_to_text left)
  lows = all_of goes_to_text (IsLow p) 1 left (lows_from 0 left (λ k. ap (slice_get left) (let e : 0 + k ≡ k = omega arith in e)))
