-- What branch sizes see of the statements of a source.

use Rattle.std.proofs.Common.{◌≡◌, ℕ, zero, suc, ◌+◌, ◌-◌, ◌*◌, ◌<◌, ◌≤◌, ◌==◌, Bool, true, false, List, [], ◌∷◌, ◌++◌, length, map, take, drop, Option, Some, None, option_map, refl, sym, ap, ◌∙◌, subst, arith, eqb-true, eq-eqb, inr}
use Rattle.std.specs.Prelude.{slice_get, slice_index, if◌then◌else◌}
use Rattle.std.specs.List.{find}
use Rattle.rv_expression_laws.specs.Values.{Value, Symbolic}
use Rattle.rv_expression_laws.specs.Values as values
use Rattle.rv_statement_laws.specs.Statement.{Statement, StatementKind, Label, Numbered, Instruction, Directs, Expression, Operand}
use Rattle.rv_size_laws.specs.declared.item.Forms.{Forms}
use Rattle.rv_size_laws.specs.declared.item.Forms.TheVariants.{Settled, CompressedBranch, Branch, CompressedJump}
use Rattle.rv_size_laws.specs.declared.item.Item.{Item}
use Rattle.rv_size_laws.specs.Branches.{branches, IsLeastGood, Offers, item_at}
use Rattle.rv_unit_laws.specs.Tables.{Tables, SectionOffset as Standing, Definition, sure_definition, at_start, after, places_from, tables, value_by_tables}
use Rattle.rv_unit.specs.declared.unit.Unit.{Unit as SourceUnit}
use Rattle.rv_unit.specs.Unit.{said, IsFilled}
use Rattle.std.proofs.lemmas.List.{length-append}
use Rattle.rv_list_laws.proofs.NumbersLemmas.{eq_below}
use Rattle.rv_list_laws.proofs.TakeDropLemmas.{take_here, take_whole}
use Rattle.rv_assemble_laws.specs.Refusals.{code_faults_at}
use Rattle.rv_instruction.specs.Code.{near_forms_of, OffersAny, MayHave}
use Rattle.rv_draft.specs.Contents.{beside_of}
use Rattle.rv_draft.specs.Measure.{HasLength, HasSizeAt, HaveSizes, AreSizes, IsMeasured}
use Rattle.rv_draft.proofs.ExtentsLemmas.{faults_in}
use Rattle.rv_draft.proofs.StandingLemmas.{StandsAt, located_at, stated_length}
use Rattle.rv_unit.specs.declared.section_offset.SectionOffset.{SectionOffset}
use Rattle.rv_unit.specs.Sections.{offset_of}
use Rattle.rv_source_laws.specs.Located.{Located, located_from, located_now}
use Rattle.rv_source_laws.specs.Program.{place_of}
use Rattle.rv_source_laws.specs.Sizes.{near_forms, near_at, near_value, near_target, target_in, settled, branch_item, item_by_kind, items_of, AreLeast}
use Rattle.rv_source_laws.specs.Sizes as sizes
use Rattle.rv_assemble_laws.specs.LaidStatements.{expression_value}
use Rattle.rv_instruction.specs.Near.{section_by_ordinal, near_by, near_in, near_value_in, near_target_in, branch_in, item_by, item_in}

-- ---- the section of a statement, by its ordinal

abbrev pub Found : ℕ → List Located → Option Located
Found n ls = find (λ (s : Located). s.ordinal == n) ls

none_first : (m : ℕ) → (suc m == 0) ≡ false
none_first m = go (suc m == 0) refl
  where
    go : (c : Bool) → (suc m == 0) ≡ c → (suc m == 0) ≡ false
    go true e = let same : suc m ≡ 0 = eqb-true (suc m) 0 e in absurd (omega (arith, same))
    go false e = e

found_at : (j k : ℕ) (t : Tables) (ss : List Statement) → option_map (λ (s : Located). s.section) (Found (j + k) (located_from 1 k t ss)) ≡ option_map (λ (p : Standing). p.section) (slice_get (places_from t k ss) j)
found_at zero k t [] = refl
found_at (suc j) k t [] = refl
found_at zero k t (s ∷ ss) =
    let same : k ≡ 0 + k = omega arith in
    ap (λ b. option_map (λ (s : Located). s.section) (if b then Some (located_now 1 k t s) else Found (0 + k) (located_from 1 (suc k) (after t k s.kind) ss))) (eq-eqb k (0 + k) same)
found_at (suc j) k t (s ∷ ss) =
    let less : k < suc j + k = omega arith in
    let same : suc j + k ≡ j + suc k = omega arith in
    ap (λ b. option_map (λ (s : Located). s.section) (if b then Some (located_now 1 k t s) else Found (suc j + k) (located_from 1 (suc k) (after t k s.kind) ss))) (eq_below k (suc j + k) less)
    ∙ ap (λ n. option_map (λ (s : Located). s.section) (Found n (located_from 1 (suc k) (after t k s.kind) ss))) same
    ∙ found_at j (suc k) (after t k s.kind) ss

pub found_none : (k : ℕ) (t : Tables) (ss : List Statement) → Found 0 (located_from 1 (suc k) t ss) ≡ None
found_none k t [] = refl
found_none k t (s ∷ ss) =
    ap (λ b. if b then Some (located_now 1 (suc k) t s) else Found 0 (located_from 1 (suc (suc k)) (after t (suc k) s.kind) ss)) (none_first k)
    ∙ found_none (suc k) (after t (suc k) s.kind) ss

mapped_section : (ps : List SectionOffset) (j : ℕ) → option_map (λ (p : Standing). p.section) (slice_get (map offset_of ps) j) ≡ option_map (λ (p : SectionOffset). p.section) (slice_get ps j)
mapped_section [] zero = refl
mapped_section [] (suc j) = refl
mapped_section (p ∷ ps) zero = refl
mapped_section (p ∷ ps) (suc j) = mapped_section ps j

-- by the places of a unit
abbrev pub Agrees : List SectionOffset → List Located → Type 0
Agrees places all = (n : ℕ) → option_map (λ (s : Located). s.section) (Found n all) ≡ section_by_ordinal places n

pub places_agree : (places : List SectionOffset) (ss : List Statement) → map offset_of places ≡ places_from (at_start ss) 1 ss → Agrees places (located_from 1 1 (at_start ss) ss)
places_agree places ss stand zero = ap (option_map (λ (s : Located). s.section)) (found_none 0 (at_start ss) ss)
places_agree places ss stand (suc m) =
    let up : suc m ≡ m + 1 = omega arith in
    let down : m ≡ suc m - 1 = omega arith in
    ap (λ n. option_map (λ (s : Located). s.section) (Found n (located_from 1 1 (at_start ss) ss))) up
    ∙ found_at m 1 (at_start ss) ss ∙ ap (λ l. option_map (λ (p : Standing). p.section) (slice_get l m)) (sym stand) ∙ mapped_section places m
    ∙ ap (λ j. option_map (λ (p : SectionOffset). p.section) (slice_get places j)) down
    ∙ ap (λ b. if b then None else option_map (λ (p : SectionOffset). p.section) (slice_get places (suc m - 1))) (sym (none_first m))

-- ---- one statement

module _ (places : List SectionOffset) (all : List Located) (agree : Agrees places all) where
  by_section : (o : Option Located) (r : Option ℕ) (section ordinal plus : ℕ) → option_map (λ (s : Located). s.section) o ≡ r
      → elim o [
        | None ↦ None
        | Some s ↦ near_by (Some s.section) section ordinal plus
      ] ≡ near_by r section ordinal plus
  by_section None r section ordinal plus e = ap (λ x. near_by x section ordinal plus) e
  by_section (Some s) r section ordinal plus e = ap (λ x. near_by x section ordinal plus) e

  near_same : (section : ℕ) (d : Option Definition) (plus : ℕ) → near_at all section d plus ≡ near_in (section_by_ordinal places) section d plus
  near_same section None plus = refl
  near_same section (Some d) plus = by_section (Found d.ordinal all) (section_by_ordinal places d.ordinal) section d.ordinal plus (agree d.ordinal)

  value_same : (t : Tables) (s : Located) (v : Value) → near_value t all s v ≡ near_value_in (section_by_ordinal places) s.section t s.ordinal v
  value_same t s (values.Symbolic symbol at plus) = near_same s.section (sure_definition t s.ordinal symbol) plus
  value_same t s (values.Constant n) = refl
  value_same t s (values.Difference a b plus) = refl
  value_same t s (values.Faulty code) = refl

  target_same : (t : Tables) (s : Located) (o : Option Expression) → elim o [
    | None ↦ None
    | Some e ↦ near_value t all s (value_by_tables t true s.ordinal (place_of s) e)
  ] ≡ near_target_in (section_by_ordinal places) s.section t s.ordinal (λ e. value_by_tables t true s.ordinal (place_of s) e) o
  target_same t s None = refl
  target_same t s (Some e) = value_same t s (value_by_tables t true s.ordinal (place_of s) e)

  branch_same : (s : Located) (forms : Forms) (n : Option sizes.Near) → branch_item s forms n ≡ branch_in s.section forms n
  branch_same s forms None = refl
  branch_same s forms (Some n) = refl

  forms_same : (t : Tables) (s : Located) (bytes : ℕ) (os : List Operand) (forms : Option Forms)
      → sizes.item_by t all s bytes os forms ≡ item_by s.section bytes forms (near_target_in (section_by_ordinal places) s.section t s.ordinal (λ e. value_by_tables t true s.ordinal (place_of s) e) (target_in os))
  forms_same t s bytes os None = refl
  forms_same t s bytes os (Some (Settled size)) = refl
  forms_same t s bytes os (Some CompressedBranch) = branch_same s CompressedBranch (near_target t all s os) ∙ ap (branch_in s.section CompressedBranch) (target_same t s (target_in os))
  forms_same t s bytes os (Some Branch) = branch_same s Branch (near_target t all s os) ∙ ap (branch_in s.section Branch) (target_same t s (target_in os))
  forms_same t s bytes os (Some CompressedJump) = branch_same s CompressedJump (near_target t all s os) ∙ ap (branch_in s.section CompressedJump) (target_same t s (target_in os))

  pub item_same : (t : Tables) (s : Located) (bytes : ℕ) (kind : StatementKind)
      → item_by_kind t all s bytes kind ≡ item_in (section_by_ordinal places) s.section t s.ordinal (λ e. value_by_tables t true s.ordinal (place_of s) e) s.options.rvc bytes kind
  item_same t s bytes (Instruction mnemonic os) = forms_same t s bytes os (near_forms s.options.rvc mnemonic os)
  item_same t s bytes (Label name) = refl
  item_same t s bytes (Numbered number) = refl
  item_same t s bytes (Directs directive) = refl

-- ---- one more

pub items_more : (t : Tables) (all xs : List Located) (ls : List ℕ) (s : Located) (n : ℕ) → length ls ≡ length xs
    → items_of t all (xs ++ s ∷ []) (ls ++ n ∷ []) ≡ items_of t all xs ls ++ item_by_kind t all s n s.kind ∷ []
items_more t all [] [] s n same = refl
items_more t all [] (l ∷ ls) s n same = absurd (let e : suc (length ls) ≡ 0 = same in omega (arith, e))
items_more t all (x ∷ xs) [] s n same = absurd (let e : 0 ≡ suc (length xs) = same in omega (arith, e))
items_more t all (x ∷ xs) (l ∷ ls) s n same =
    let less : length ls ≡ length xs = let e : suc (length ls) ≡ suc (length xs) = same in omega (arith, e) in
    ap (λ r. item_by_kind t all x l x.kind ∷ r) (items_more t all xs ls s n less)

-- ---- the least lengths

-- a length is that of a settled statement
one_settled : (t : Tables) (all : List Located) (s : Located) (bytes size : ℕ) (os : List Operand) (forms : Option Forms) → Offers (sizes.item_by t all s bytes os forms).forms size
    → sizes.item_by t all s size os forms ≡ sizes.item_by t all s bytes os forms
one_settled t all s bytes size os None offers = ap (settled s) offers
one_settled t all s bytes size os (Some (Settled n)) offers = refl
one_settled t all s bytes size os (Some CompressedBranch) offers = refl
one_settled t all s bytes size os (Some Branch) offers = refl
one_settled t all s bytes size os (Some CompressedJump) offers = refl

kind_settled : (t : Tables) (all : List Located) (s : Located) (bytes size : ℕ) (kind : StatementKind) → Offers (item_by_kind t all s bytes kind).forms size
    → item_by_kind t all s size kind ≡ item_by_kind t all s bytes kind
kind_settled t all s bytes size (Instruction mnemonic os) offers = one_settled t all s bytes size os (near_forms s.options.rvc mnemonic os) offers
kind_settled t all s bytes size (Label name) offers = ap (settled s) offers
kind_settled t all s bytes size (Numbered number) offers = ap (settled s) offers
kind_settled t all s bytes size (Directs directive) offers = ap (settled s) offers

all_settled : (t : Tables) (all ss : List Located) (ls found : List ℕ) → length ls ≡ length ss → length found ≡ length (items_of t all ss ls)
    → ((i : ℕ) → Offers (item_at (items_of t all ss ls) i).forms (slice_index found i)) → items_of t all ss found ≡ items_of t all ss ls
all_settled t all [] ls found same count offered = refl
all_settled t all (s ∷ ss) [] found same count offered = absurd (let e : 0 ≡ suc (length ss) = same in omega (arith, e))
all_settled t all (s ∷ ss) (l ∷ ls) [] same count offered = absurd (let e : 0 ≡ suc (length (items_of t all ss ls)) = count in omega (arith, e))
all_settled t all (s ∷ ss) (l ∷ ls) (n ∷ found) same count offered =
    let less : length ls ≡ length ss = let e : suc (length ls) ≡ suc (length ss) = same in omega (arith, e) in
    let fewer : length found ≡ length (items_of t all ss ls) = let e : suc (length found) ≡ suc (length (items_of t all ss ls)) = count in omega (arith, e) in
    ap (λ x. x ∷ items_of t all ss found) (kind_settled t all s l n s.kind (offered 0))
    ∙ ap (λ r. item_by_kind t all s l s.kind ∷ r) (all_settled t all ss ls found less fewer (λ i. offered (suc i)))

pub least_of : (t : Tables) (all : List Located) (ls found : List ℕ) (items : List Item) → length ls ≡ length all → items ≡ items_of t all all ls → IsLeastGood items found → AreLeast t all found
least_of t all ls found items same is least =
    let good = subst (λ l. IsLeastGood l found) is least in
    subst (λ l. IsLeastGood l found) (sym (all_settled t all all ls found same good.good.family.same_length good.good.family.offered)) good

pub items_count : (t : Tables) (all ss : List Located) (ls : List ℕ) → length ls ≡ length ss → length (items_of t all ss ls) ≡ length ss
items_count t all [] ls same = refl
items_count t all (s ∷ ss) [] same = absurd (let e : 0 ≡ suc (length ss) = same in omega (arith, e))
items_count t all (s ∷ ss) (l ∷ ls) same =
    let less : length ls ≡ length ss = let e : suc (length ls) ≡ suc (length ss) = same in omega (arith, e) in
    ap suc (items_count t all ss ls less)

-- ---- how long each is as code

-- the least of the forms of a statement is one of them
forms_offered : (t : Tables) (all : List Located) (s : Located) (bytes n : ℕ) (os : List Operand) (forms : Option Forms) → Offers (sizes.item_by t all s bytes os forms).forms n → OffersAny forms n
forms_offered t all s bytes n os None offers = tt
forms_offered t all s bytes n os (Some (Settled size)) offers = offers
forms_offered t all s bytes n os (Some CompressedBranch) offers = go (near_target t all s os) offers
  where
    go : (o : Option sizes.Near) → Offers (branch_item s CompressedBranch o).forms n → Offers CompressedBranch n
    go None e = inr (inr e)
    go (Some near) e = e
forms_offered t all s bytes n os (Some Branch) offers = go (near_target t all s os) offers
  where
    go : (o : Option sizes.Near) → Offers (branch_item s Branch o).forms n → Offers Branch n
    go None e = inr e
    go (Some near) e = e
forms_offered t all s bytes n os (Some CompressedJump) offers = go (near_target t all s os) offers
  where
    go : (o : Option sizes.Near) → Offers (branch_item s CompressedJump o).forms n → Offers CompressedJump n
    go None e = inr e
    go (Some near) e = e

kind_offered : (t : Tables) (all : List Located) (s : Located) (bytes n : ℕ) (kind : StatementKind) → Offers (item_by_kind t all s bytes kind).forms n → MayHave s.options.rvc kind n
kind_offered t all s bytes n (Instruction mnemonic os) offers = forms_offered t all s bytes n os (near_forms s.options.rvc mnemonic os) offers
kind_offered t all s bytes n (Label name) offers = tt
kind_offered t all s bytes n (Numbered number) offers = tt
kind_offered t all s bytes n (Directs directive) offers = tt

-- a statement without forms has the length that it had
kind_same : (t : Tables) (all : List Located) (s : Located) (bytes n : ℕ) (kind : StatementKind) → near_forms_of s.options.rvc kind ≡ None → Offers (item_by_kind t all s bytes kind).forms n → bytes ≡ n
kind_same t all s bytes n (Instruction mnemonic os) none offers = sym (subst (λ f. Offers (sizes.item_by t all s bytes os f).forms n) none offers)
kind_same t all s bytes n (Label name) none offers = sym offers
kind_same t all s bytes n (Numbered number) none offers = sym offers
kind_same t all s bytes n (Directs directive) none offers = sym offers

lengths_are : (t : Tables) (all ss : List Located) (ls found : List ℕ) → HaveSizes t ss ls → length found ≡ length (items_of t all ss ls)
    → ((i : ℕ) → Offers (item_at (items_of t all ss ls) i).forms (slice_index found i)) → AreSizes t ss found
lengths_are t all [] [] [] told count offered = tt
lengths_are t all [] [] (n ∷ found) told count offered = absurd (omega (arith, count))
lengths_are t all [] (l ∷ ls) found told count offered = absurd told
lengths_are t all (s ∷ ss) [] found told count offered = absurd told
lengths_are t all (s ∷ ss) (l ∷ ls) [] told count offered = absurd (let e : 0 ≡ suc (length (items_of t all ss ls)) = count in omega (arith, e))
lengths_are t all (s ∷ ss) (l ∷ ls) (n ∷ found) (told, others) count offered =
    let fewer : length found ≡ length (items_of t all ss ls) = let e : suc (length found) ≡ suc (length (items_of t all ss ls)) = count in omega (arith, e) in (
      record {
        offered = kind_offered t all s l n s.kind (offered 0);
        told = λ sound none code is. told sound none code is ∙ kind_same t all s l n s.kind none (offered 0);
      },
      lengths_are t all ss ls found others fewer (λ i. offered (suc i)),
    )

lengths_more : (t : Tables) (xs : List Located) (ls : List ℕ) (s : Located) (n : ℕ) → HaveSizes t xs ls → HasSizeAt t s n → HaveSizes t (xs ++ s ∷ []) (ls ++ n ∷ [])
lengths_more t [] [] s n h one = (one, tt)
lengths_more t [] (l ∷ ls) s n h one = absurd h
lengths_more t (x ∷ xs) [] s n h one = absurd h
lengths_more t (x ∷ xs) (l ∷ ls) s n (h, hs) one = (h, lengths_more t xs ls s n hs one)

-- ---- the statements of a unit, so far

abbrev pub MeasuredTo : List Statement → ℕ → List Item → Type 0
MeasuredTo ss i items =
    (ls : List ℕ) × HaveSizes (tables ss) (take i (located_from 1 1 (at_start ss) ss)) ls
    × (length ls ≡ length (take i (located_from 1 1 (at_start ss) ss)))
    × (items ≡ items_of (tables ss) (located_from 1 1 (at_start ss) ss) (take i (located_from 1 1 (at_start ss) ss)) ls)

pub measured_begin : (ss : List Statement) → MeasuredTo ss 0 []
measured_begin ss = ([], none_long (located_from 1 1 (at_start ss) ss), none_taken (located_from 1 1 (at_start ss) ss), none_seen (located_from 1 1 (at_start ss) ss))
  where
    none_long : (ls : List Located) → HaveSizes (tables ss) (take 0 ls) []
    none_long [] = tt
    none_long (s ∷ ls) = tt

    none_taken : (ls : List Located) → length {A = ℕ} [] ≡ length (take 0 ls)
    none_taken [] = refl
    none_taken (s ∷ ls) = refl

    none_seen : (ls : List Located) → [] ≡ items_of (tables ss) (located_from 1 1 (at_start ss) ss) (take 0 ls) []
    none_seen [] = refl
    none_seen (s ∷ ls) = refl

-- the item of a statement where it stands
seen_there : (u : SourceUnit) (i : ℕ) (x : Statement) (p : SectionOffset) (rvc : Bool) (bytes : ℕ) (item : Item) → IsFilled u → StandsAt u i x p
    → rvc ≡ (located_at (said u) i x).options.rvc
    → item ≡ item_in (section_by_ordinal u.places.items) p.section (tables (said u)) (i + 1) (λ e. value_by_tables (tables (said u)) true (i + 1) (offset_of p) e) rvc bytes x.kind
    → item ≡ item_by_kind (tables (said u)) (located_from 1 1 (at_start (said u)) (said u)) (located_at (said u) i x) bytes x.kind
seen_there u i x p rvc bytes item filled at on is =
    let ss = said u in
    let s = located_at ss i x in
    let there = subst (λ (q : Standing). item ≡ item_in (section_by_ordinal u.places.items) q.section (tables ss) (i + 1) (λ e. value_by_tables (tables ss) true (i + 1) q e) rvc bytes x.kind) at.place is in
    let here = subst (λ b. item ≡ item_in (section_by_ordinal u.places.items) s.section (tables ss) (i + 1) (λ e. value_by_tables (tables ss) true (i + 1) (place_of s) e) b bytes x.kind) on there in
    here ∙ sym (item_same u.places.items (located_from 1 1 (at_start ss) ss) (places_agree u.places.items ss filled.stand) (tables ss) s bytes x.kind)

-- how long a statement is where it stands
long_there : (u : SourceUnit) (i : ℕ) (x : Statement) (p : SectionOffset) (rvc b : Bool) (bytes : ℕ) → StandsAt u i x p
    → rvc ≡ (located_at (said u) i x).options.rvc → b ≡ (located_at (said u) i x).home.executable
    → HasLength (λ e. value_by_tables (tables (said u)) true (i + 1) (offset_of p) e) rvc (faults_in (tables (said u)) (i + 1) (offset_of p) x)
    (beside_of b (λ e. value_by_tables (tables (said u)) true (i + 1) (offset_of p) e) p.offset x.kind) x.kind bytes
    → HasSizeAt (tables (said u)) (located_at (said u) i x) bytes
long_there u i x p rvc b bytes at on home h =
    let t = tables (said u) in
    let s = located_at (said u) i x in
    let kind = x.kind in
    let there = subst (λ (q : Standing). HasLength (λ e. value_by_tables t true (i + 1) q e) rvc (faults_in t (i + 1) q x) (beside_of b (λ e. value_by_tables t true (i + 1) q e) q.offset kind) kind bytes) at.place h in
    subst (λ c. HasLength (λ e. expression_value t s e) s.options.rvc (code_faults_at t s) (beside_of c (λ e. expression_value t s e) s.offset kind) kind bytes) home
    (subst (λ r. HasLength (λ e. expression_value t s e) r (code_faults_at t s) (beside_of b (λ e. expression_value t s e) s.offset kind) kind bytes) on there)

-- what sizes see of a statement of a unit, by its ordinal and its place
abbrev pub SeenThere : SourceUnit → ℕ → Standing → ℕ → List SectionOffset → Bool → Bool → Statement → Item → Type 0
SeenThere u ordinal q section places b rvc s item =
    (bytes : ℕ)
    × HasLength (λ e. value_by_tables (tables (said u)) true ordinal q e) rvc (faults_in (tables (said u)) ordinal q s)
    (beside_of b (λ e. value_by_tables (tables (said u)) true ordinal q e) q.offset s.kind) s.kind bytes
    × (item ≡ item_in (section_by_ordinal places) section (tables (said u)) ordinal (λ e. value_by_tables (tables (said u)) true ordinal q e) rvc bytes s.kind)

pub measured_more : (u : SourceUnit) (i : ℕ) (x : Statement) (p : SectionOffset) (rvc b : Bool) (old new : List Item) (item : Item) → IsFilled u → StandsAt u i x p
    → rvc ≡ (located_at (said u) i x).options.rvc → b ≡ (located_at (said u) i x).home.executable
    → SeenThere u (i + 1) (offset_of p) p.section u.places.items b rvc x item
    → MeasuredTo (said u) i old → new ≡ old ++ item ∷ [] → MeasuredTo (said u) (i + 1) new
measured_more u i x p rvc b old new item filled at on home (bytes, long, is) (ls, lengths, same, so) more =
    let ss = said u in
    let t = tables ss in
    let all = located_from 1 1 (at_start ss) ss in
    let s = located_at ss i x in
    let seen = seen_there u i x p rvc bytes item filled at on is in
    let next : i + 1 ≡ suc i = omega arith in
    let longer : take (i + 1) all ≡ take i all ++ s ∷ [] = ap (λ n. take n all) next ∙ take_here all i s (drop (i + 1) all) at.next in (
      ls ++ bytes ∷ [],
      subst (λ xs. HaveSizes t xs (ls ++ bytes ∷ [])) (sym longer) (lengths_more t (take i all) ls s bytes lengths (long_there u i x p rvc b bytes at on home long)),
      length-append ls (bytes ∷ []) ∙ ap (λ n. n + 1) same ∙ sym (length-append (take i all) (s ∷ [])) ∙ ap length (sym longer),
      more ∙ ap (λ l. l ++ item ∷ []) so ∙ ap (λ y. items_of t all (take i all) ls ++ y ∷ []) seen
          ∙ sym (items_more t all (take i all) ls s bytes same) ∙ ap (λ xs. items_of t all xs (ls ++ bytes ∷ [])) (sym longer),
    )

pub measured_whole : (ss : List Statement) (i : ℕ) (items : List Item) → drop i (located_from 1 1 (at_start ss) ss) ≡ [] → MeasuredTo ss i items → IsMeasured ss items
measured_whole ss i items none (ls, lengths, same, so) =
    let all = located_from 1 1 (at_start ss) ss in
    let whole = take_whole all i none in
    record {
      lengths = ls;
      told = subst (λ xs. HaveSizes (tables ss) xs ls) whole lengths;
      count = same ∙ ap length whole ∙ stated_length 1 1 (at_start ss) ss;
      seen = so ∙ ap (λ xs. items_of (tables ss) all xs ls) whole;
    }

-- the least lengths of a source
pub measured_least : (ss : List Statement) (items : List Item) (found : List ℕ) → IsMeasured ss items → IsLeastGood items found → AreLeast (tables ss) (located_from 1 1 (at_start ss) ss) found
measured_least ss items found m least =
    least_of (tables ss) (located_from 1 1 (at_start ss) ss) m.lengths found items (m.count ∙ sym (stated_length 1 1 (at_start ss) ss)) m.seen least

pub measured_count : (ss : List Statement) (items : List Item) (found : List ℕ) → IsMeasured ss items → IsLeastGood items found → length found ≡ length ss
measured_count ss items found m least =
    let all = located_from 1 1 (at_start ss) ss in
    let same = m.count ∙ sym (stated_length 1 1 (at_start ss) ss) in
    least.good.family.same_length ∙ ap length m.seen ∙ items_count (tables ss) all all m.lengths same ∙ stated_length 1 1 (at_start ss) ss

-- each is long enough for its code
pub measured_lengths : (ss : List Statement) (items : List Item) (found : List ℕ) → IsMeasured ss items → IsLeastGood items found → AreSizes (tables ss) (located_from 1 1 (at_start ss) ss) found
measured_lengths ss items found m least =
    let all = located_from 1 1 (at_start ss) ss in
    let good = subst (λ l. IsLeastGood l found) m.seen least in
    lengths_are (tables ss) all all m.lengths found m.told good.good.family.same_length good.good.family.offered

-- the passes are no more than its branches and jumps make
pub measured_rounds : (ss : List Statement) (items : List Item) (found : List ℕ) (rounds : ℕ) → IsMeasured ss items → IsLeastGood items found → rounds ≤ 2 * branches items + 1
    → rounds ≤ 2 * branches (items_of (tables ss) (located_from 1 1 (at_start ss) ss) (located_from 1 1 (at_start ss) ss) found) + 1
measured_rounds ss items found rounds m least few =
    let all = located_from 1 1 (at_start ss) ss in
    let good = subst (λ l. IsLeastGood l found) m.seen least in
    let same = all_settled (tables ss) all all m.lengths found (m.count ∙ sym (stated_length 1 1 (at_start ss) ss)) good.good.family.same_length good.good.family.offered in
    subst (λ l. rounds ≤ 2 * branches l + 1) (m.seen ∙ sym same) few
