-- The least sizes of a source are told by those of its code: what else it holds has the bytes that it has.

use Rattle.std.proofs.Common.{◌≡◌, ◌⊎◌, inl, inr, ℕ, zero, suc, ◌≤◌, ◌<◌, Bool, true, false, List, [], ◌∷◌, length, slice_index, refl, sym, ap, ◌∙◌, subst, arith, Option, Some, None}
use Rattle.std.specs.Prelude.{if◌then◌else◌, ◌==◌, ⊤, slice_get}
use Rattle.std.specs.List.{AllByRecursion}
use Rattle.std.proofs.lemmas.Bool.{eqb-true}
use Rattle.rv_statement_laws.specs.Statement.{StatementKind, Label, Numbered, Instruction, Directs}
use Rattle.rv_size_laws.specs.declared.item.Forms.TheVariants.{Settled}
use Rattle.rv_size_laws.specs.declared.item.Item.{Item}
use Rattle.rv_size_laws.specs.Offsets.{Reaches, distance}
use Rattle.rv_size_laws.specs.Branches.{Offers, largest, half, item_at, of_section, IsGood, IsLeastGood}
use Rattle.rv_unit_laws.specs.Sections.{Section}
use Rattle.rv_unit_laws.specs.Tables.{Tables}
use Rattle.rv_source_laws.specs.Located.{Located}
use Rattle.rv_source_laws.specs.Sizes.{near_forms, settled, item_by_kind, items_of, AreLeast}
use Rattle.rv_source_laws.proofs.HeldLemmas.{IsHeld, Held}
use Rattle.rv_source_laws.proofs.HomesLemmas.{IsHomeIn}
use Rattle.rv_assemble_laws.proofs.ItemSectionsLemmas.{item_section}

-- ---- items that differ outside sections of code alone

-- in code an item and its size are the same
pub record IsSame (is_code : ℕ → Bool) (x y : Item) (n m : ℕ) : Type 0 where
  pub inside : is_code x.section ≡ true
  pub one_item : x ≡ y
  pub one_size : n ≡ m

-- elsewhere both have the one size that they have
pub record IsApart (is_code : ℕ → Bool) (x y : Item) (n m : ℕ) : Type 0 where
  pub outside : is_code x.section ≡ false
  pub one_section : x.section ≡ y.section
  pub first_settled : x.forms ≡ Settled n
  pub second_settled : y.forms ≡ Settled m

abbrev pub IsAlike : (ℕ → Bool) → (x y : Item) → (n m : ℕ) → Type 0
IsAlike is_code x y n m = IsSame is_code x y n m ⊎ IsApart is_code x y n m

pub data Alike (is_code : ℕ → Bool) : List Item → List ℕ → List Item → List ℕ → Type 0 where
  Ended : Alike is_code [] [] [] []
  Both : (x y : Item) (n m : ℕ) (xs ys : List Item) (ns ms : List ℕ) → IsAlike is_code x y n m → Alike is_code xs ns ys ms
      → Alike is_code (x ∷ xs) (n ∷ ns) (y ∷ ys) (m ∷ ms)

module _ (is_code : ℕ → Bool) where
  -- the other way round
  turned : (x y : Item) (n m : ℕ) → IsAlike is_code x y n m → IsAlike is_code y x m n
  turned x y n m (inl h) = inl (record {
    inside = ap (λ (z : Item). is_code z.section) (sym h.one_item) ∙ h.inside;
    one_item = sym h.one_item;
    one_size = sym h.one_size;
  })
  turned x y n m (inr h) = inr (record {
    outside = ap is_code (sym h.one_section) ∙ h.outside;
    one_section = sym h.one_section;
    first_settled = h.second_settled;
    second_settled = h.first_settled;
  })

  pub all_turned : (xs : List Item) (ns : List ℕ) (ys : List Item) (ms : List ℕ) → Alike is_code xs ns ys ms → Alike is_code ys ms xs ns
  all_turned _ _ _ _ Ended = Ended
  all_turned _ _ _ _ (Both x y n m xs ys ns ms one rest) = Both y x m n ys xs ms ns (turned x y n m one) (all_turned xs ns ys ms rest)

  second_length : (xs : List Item) (ns : List ℕ) (ys : List Item) (ms : List ℕ) → Alike is_code xs ns ys ms → length ms ≡ length ys
  second_length _ _ _ _ Ended = refl
  second_length _ _ _ _ (Both x y n m xs ys ns ms one rest) = ap suc (second_length xs ns ys ms rest)

  -- past the end both have no byte
  none_at : (b : Bool) (x : Item) (n : ℕ) → is_code x.section ≡ b → x.forms ≡ Settled n → IsAlike is_code x x n n
  none_at true x n e h = inl (record { inside = e; one_item = refl; one_size = refl })
  none_at false x n e h = inr (record { outside = e; one_section = refl; first_settled = h; second_settled = h })

  alike_at : (xs : List Item) (ns : List ℕ) (ys : List Item) (ms : List ℕ) → Alike is_code xs ns ys ms
      → (i : ℕ) → IsAlike is_code (item_at xs i) (item_at ys i) (slice_index ns i) (slice_index ms i)
  alike_at _ _ _ _ Ended i = none_at (is_code 0) (item_at [] i) 0 refl refl
  alike_at _ _ _ _ (Both x y n m xs ys ns ms one rest) zero = one
  alike_at _ _ _ _ (Both x y n m xs ys ns ms one rest) (suc i) = alike_at xs ns ys ms rest i

  -- ---- the sizes of a section of code

  not_code : (a k : ℕ) → is_code k ≡ true → is_code a ≡ false → (a == k) ≡ true → ⊥
  not_code a k code other e =
      let there : is_code a ≡ true = ap is_code (eqb-true a k e) ∙ code in
      let both : true ≡ false = sym there ∙ other in
      cc

  none_if : (b : Bool) (n : ℕ) → (b ≡ true → ⊥) → ◌≡◌ {A = ℕ} (if b then n else 0) 0
  none_if true n h = absurd (h refl)
  none_if false n h = refl

  one_in : (k : ℕ) (x y : Item) (n m : ℕ) → is_code k ≡ true → IsAlike is_code x y n m
      → ◌≡◌ {A = ℕ} (if x.section == k then n else 0) (if y.section == k then m else 0)
  one_in k x y n m code (inl h) =
      ap (λ (z : Item). if z.section == k then n else 0) h.one_item ∙ ap (λ (z : ℕ). if y.section == k then z else 0) h.one_size
  one_in k x y n m code (inr h) =
      none_if (x.section == k) n (not_code x.section k code h.outside)
      ∙ sym (none_if (y.section == k) m (not_code y.section k code (ap is_code (sym h.one_section) ∙ h.outside)))

  section_same : (k : ℕ) (xs : List Item) (ns : List ℕ) (ys : List Item) (ms : List ℕ) → is_code k ≡ true → Alike is_code xs ns ys ms
      → of_section k xs ns ≡ of_section k ys ms
  section_same k _ _ _ _ code Ended = refl
  section_same k _ _ _ _ code (Both x y n m xs ys ns ms one rest) =
      ap (λ z. z ∷ of_section k xs ns) (one_in k x y n m code one)
      ∙ ap (λ l. (if y.section == k then m else 0) ∷ l) (section_same k xs ns ys ms code rest)

  -- ---- what is good for the one is good for the other

  offered_by : (x y : Item) (n m : ℕ) → IsAlike is_code x y n m → Offers x.forms n → Offers y.forms m
  offered_by x y n m (inl h) o =
      subst (λ z. Offers y.forms z) h.one_size (subst (λ (z : Item). Offers z.forms n) h.one_item o)
  offered_by x y n m (inr h) o = subst (λ f. Offers f m) (sym h.second_settled) refl

  -- a form below the largest stands in code
  reaches_by : (xs : List Item) (ns : List ℕ) (ys : List Item) (ms : List ℕ) → Alike is_code xs ns ys ms → (i : ℕ)
      → (x y : Item) (n m : ℕ) → IsAlike is_code x y n m
      → (n < largest x.forms → Reaches (half x.forms n) x.addend (distance (of_section x.section xs ns) i x.target))
      → m < largest y.forms → Reaches (half y.forms m) y.addend (distance (of_section y.section ys ms) i y.target)
  reaches_by xs ns ys ms a i x y n m (inl h) reaching less =
      let item = sym h.one_item in
      let size = sym h.one_size in
      let lower : n < largest x.forms = subst (λ (z : Item). n < largest z.forms) item (subst (λ z. z < largest y.forms) size less) in
      let first : Reaches (half x.forms n) x.addend (distance (of_section x.section ys ms) i x.target) =
      subst (λ l. Reaches (half x.forms n) x.addend (distance l i x.target)) (section_same x.section xs ns ys ms h.inside a) (reaching lower) in
      subst (λ z. Reaches (half y.forms z) y.addend (distance (of_section y.section ys ms) i y.target)) h.one_size
      (subst (λ (z : Item). Reaches (half z.forms n) z.addend (distance (of_section z.section ys ms) i z.target)) h.one_item first)
  reaches_by xs ns ys ms a i x y n m (inr h) reaching less =
      let same : m < m = subst (λ f. m < largest f) h.second_settled less in absurd (omega (arith, same))

  pub good_by : (xs : List Item) (ns : List ℕ) (ys : List Item) (ms : List ℕ) → Alike is_code xs ns ys ms → IsGood xs ns → IsGood ys ms
  good_by xs ns ys ms a good = record {
    family = record {
      same_length = second_length xs ns ys ms a;
      offered = λ i.
          offered_by (item_at xs i) (item_at ys i) (slice_index ns i) (slice_index ms i) (alike_at xs ns ys ms a i) (good.family.offered i);
    };
    reaching = λ i.
        reaches_by xs ns ys ms a i (item_at xs i) (item_at ys i) (slice_index ns i) (slice_index ms i) (alike_at xs ns ys ms a i)
        (good.reaching i);
  }

  -- ---- the least

  -- sizes for the first items: other sizes in code, and those of the first elsewhere
  abbrev mixed : List Item → List ℕ → List ℕ → List ℕ
  mixed (x ∷ xs) (n ∷ ns) (o ∷ os) = (if is_code x.section then o else n) ∷ mixed xs ns os
  mixed (x ∷ xs) (n ∷ ns) [] = []
  mixed (x ∷ xs) [] os = []
  mixed [] ns os = []

  code_if : (b : Bool) (n o : ℕ) → b ≡ true → ◌≡◌ {A = ℕ} (if b then o else n) o
  code_if true n o e = refl
  code_if false n o e = absurd (cc)

  else_if : (b : Bool) (n o : ℕ) → b ≡ false → ◌≡◌ {A = ℕ} (if b then o else n) n
  else_if true n o e = absurd (cc)
  else_if false n o e = refl

  one_mixed : (x y : Item) (n m o : ℕ) → IsAlike is_code x y n m → Offers y.forms o → IsAlike is_code x y (if is_code x.section then o else n) o
  one_mixed x y n m o (inl h) offers =
      inl (record { inside = h.inside; one_item = h.one_item; one_size = code_if (is_code x.section) n o h.inside })
  one_mixed x y n m o (inr h) offers =
      let is : o ≡ m = subst (λ f. Offers f o) h.second_settled offers in
      inr (record {
        outside = h.outside;
        one_section = h.one_section;
        first_settled = h.first_settled ∙ ap Settled (sym (else_if (is_code x.section) n o h.outside));
        second_settled = h.second_settled ∙ ap Settled (sym is);
      })

  all_mixed : (xs : List Item) (ns : List ℕ) (ys : List Item) (ms : List ℕ) → Alike is_code xs ns ys ms
      → (os : List ℕ) → length os ≡ length ys → ((i : ℕ) → Offers (item_at ys i).forms (slice_index os i)) → Alike is_code xs (mixed xs ns os) ys os
  all_mixed _ _ _ _ Ended [] same offers = Ended
  all_mixed _ _ _ _ Ended (o ∷ os) same offers = absurd (omega (arith, same))
  all_mixed _ _ _ _ (Both x y n m xs ys ns ms one rest) [] same offers = absurd (omega (arith, same))
  all_mixed _ _ _ _ (Both x y n m xs ys ns ms one rest) (o ∷ os) same offers =
      let fewer : length os ≡ length ys = omega (arith, same) in
      Both x y (if is_code x.section then o else n) o xs ys (mixed xs ns os) os (one_mixed x y n m o one (offers 0))
      (all_mixed xs ns ys ms rest os fewer (λ i. offers (suc i)))

  -- in code the sizes are those of the first, and elsewhere there is but one
  one_least : (x y : Item) (n m z o : ℕ) → IsAlike is_code x y n m → IsAlike is_code x y z o → n ≤ z → Offers y.forms o → m ≤ o
  one_least x y n m z o (inl h) (inl k) le offers = let a : n ≡ m = h.one_size in let b : z ≡ o = k.one_size in omega (arith, a, b, le)
  one_least x y n m z o (inl h) (inr k) le offers = let both : true ≡ false = sym h.inside ∙ k.outside in absurd (cc)
  one_least x y n m z o (inr h) k le offers =
      let is : o ≡ m = subst (λ f. Offers f o) h.second_settled offers in omega (arith, is)

  pub least_by : (xs : List Item) (ns : List ℕ) (ys : List Item) (ms : List ℕ) → Alike is_code xs ns ys ms → IsLeastGood xs ns → IsLeastGood ys ms
  least_by xs ns ys ms a least = record {
    good = good_by xs ns ys ms a least.good;
    least = λ others good i.
        let mix : Alike is_code xs (mixed xs ns others) ys others = all_mixed xs ns ys ms a others good.family.same_length good.family.offered in
        let back : IsGood xs (mixed xs ns others) = good_by ys others xs (mixed xs ns others) (all_turned xs (mixed xs ns others) ys others mix) good in
        one_least (item_at xs i) (item_at ys i) (slice_index ns i) (slice_index ms i) (slice_index (mixed xs ns others) i) (slice_index others i)
        (alike_at xs ns ys ms a i) (alike_at xs (mixed xs ns others) ys others mix i) (least.least (mixed xs ns others) back i) (good.family.offered i);
  }

-- ---- the items of a source

-- in a section of code the bytes are those of the code
abbrev pub Agree : List Located → List ℕ → List ℕ → Type 0
Agree [] [] [] = ⊤
Agree (l ∷ ls) (n ∷ ns) (b ∷ bs) = (l.home.executable ≡ true → n ≡ b) × Agree ls ns bs
Agree [] [] (b ∷ bs) = ⊥
Agree [] (n ∷ ns) bs = ⊥
Agree (l ∷ ls) [] bs = ⊥
Agree (l ∷ ls) (n ∷ ns) [] = ⊥

abbrev pub is_code_in : List Section → ℕ → Bool
is_code_in sections k = elim (slice_get sections k) [ None ↦ false | Some home ↦ home.executable ]

code_of : (o : Option Section) (home : Section) → o ≡ Some home → elim o [ None ↦ false | Some s ↦ s.executable ] ≡ home.executable
code_of o home e = ap (λ (p : Option Section). elim p [ None ↦ false | Some s ↦ s.executable ]) e

module _ (t : Tables) (all : List Located) (sections : List Section) where
  settled_alike : (s : Located) (n b : ℕ) (code : Bool) → s.home.executable ≡ code → is_code_in sections s.section ≡ s.home.executable
      → (s.home.executable ≡ true → n ≡ b) → IsAlike (is_code_in sections) (settled s n) (settled s b) n b
  settled_alike s n b true e home agree =
      inl (record { inside = home ∙ e; one_item = ap (settled s) (agree e); one_size = agree e })
  settled_alike s n b false e home agree =
      inr (record { outside = home ∙ e; one_section = refl; first_settled = refl; second_settled = refl })

  kind_alike : (s : Located) (n b : ℕ) (kind : StatementKind) → IsHeld s.home kind → is_code_in sections s.section ≡ s.home.executable
      → (s.home.executable ≡ true → n ≡ b) → IsAlike (is_code_in sections) (item_by_kind t all s n kind) (item_by_kind t all s b kind) n b
  kind_alike s n b (Instruction mnemonic os) held home agree =
      let code : s.home.executable ≡ true = held.0 in
      let at = item_section t all s n os (near_forms s.options.rvc mnemonic os) in
      inl (record {
        inside = ap (is_code_in sections) at ∙ home ∙ code;
        one_item = ap (λ size. item_by_kind t all s size (Instruction mnemonic os)) (agree code);
        one_size = agree code;
      })
  kind_alike s n b (Label name) held home agree = settled_alike s n b s.home.executable refl home agree
  kind_alike s n b (Numbered number) held home agree = settled_alike s n b s.home.executable refl home agree
  kind_alike s n b (Directs directive) held home agree = settled_alike s n b s.home.executable refl home agree

  all_alike : (ls : List Located) (lengths bytes : List ℕ) → AllByRecursion (IsHomeIn (λ file. sections)) ls → AllByRecursion Held ls
      → Agree ls lengths bytes → Alike (is_code_in sections) (items_of t all ls lengths) lengths (items_of t all ls bytes) bytes
  all_alike [] [] [] homes held agree = Ended
  all_alike [] [] (b ∷ bs) homes held agree = absurd agree
  all_alike [] (n ∷ ns) bs homes held agree = absurd agree
  all_alike (l ∷ ls) [] bs homes held agree = absurd agree
  all_alike (l ∷ ls) (n ∷ ns) [] homes held agree = absurd agree
  all_alike (l ∷ ls) (n ∷ ns) (b ∷ bs) (home, homes) (h, held) (same, agree) =
      Both (item_by_kind t all l n l.kind) (item_by_kind t all l b l.kind) n b (items_of t all ls ns) (items_of t all ls bs) ns bs
      (kind_alike l n b l.kind h (code_of (slice_get sections l.section) l.home home) same) (all_alike ls ns bs homes held agree)

-- the bytes of all statements are the least where the lengths of code are
pub least_all : (t : Tables) (sections : List Section) (ls : List Located) (lengths bytes : List ℕ) → AllByRecursion (IsHomeIn (λ file. sections)) ls
    → AllByRecursion Held ls → Agree ls lengths bytes → AreLeast t ls lengths → AreLeast t ls bytes
least_all t sections ls lengths bytes homes held agree least =
    least_by (is_code_in sections) (items_of t ls ls lengths) lengths (items_of t ls ls bytes) bytes (all_alike t ls sections ls lengths bytes homes held agree) least
