-- A branch or jump of a source in a form below its largest leads to a statement of its section that this form reaches.

use Rattle.std.proofs.Common.{◌≡◌, ℕ, zero, suc, ◌+◌, ◌-◌, ◌^◌, ◌≤◌, ◌<◌, ◌⊎◌, inl, inr, Bool, true, false, List, [], ◌∷◌, map, take, slice_index, pos, ◌-ℤ◌, refl, sym, ap, ◌∙◌, subst, arith, Option, Some, None}
use Rattle.std.specs.Prelude.{◌==◌, if◌then◌else◌}
use Rattle.std.specs.Int.{w64, int_wrap}
use Rattle.std.specs.List.{AllByRecursion, find, slice_get}
use Rattle.std.proofs.lemmas.Bool.{eqb-true, eq-eqb}
use Rattle.std.proofs.lemmas.List.Sums.{sum_by-cons}
use Rattle.rv_list_laws.proofs.NumbersLemmas.{not_equal}
use Rattle.rv_isa.specs.declared.kind.Kind.{Kind}
use Rattle.rv_isa.specs.declared.kind.Kind.TheVariants as kinds
use Rattle.rv_expression_laws.specs.Expression.{Primary}
use Rattle.rv_expression_laws.specs.Values.{add}
use Rattle.rv_statement_laws.specs.Statement.{StatementKind, Label, Numbered, Instruction, Directs, Statement, Operand}
use Rattle.rv_size_laws.specs.declared.item.Forms.{Forms}
use Rattle.rv_size_laws.specs.declared.item.Forms.TheVariants.{Settled, CompressedBranch, Branch as FullBranch, CompressedJump}
use Rattle.rv_size_laws.specs.declared.item.Item.{Item}
use Rattle.rv_size_laws.specs.Offsets.{Reaches, offset, distance}
use Rattle.rv_size_laws.specs.Branches.{Offers, largest, half, item_at, of_section, ReachesBy, IsGood}
use Rattle.rv_unit_laws.specs.Sections.{Section as SourceSection}
use Rattle.rv_unit_laws.specs.Tables.{Tables, Definition, tables, at_start, definition, gives_way, sure_definition, opened_of, longest_section}
use Rattle.rv_source_laws.specs.Located.{Located}
use Rattle.rv_source_laws.specs.Sizes.{Near, near_forms, near_at, near_value, near_target, branch_item, item_by, item_by_kind, items_of}
use Rattle.rv_object_laws.specs.declared.symbol.Definition.TheVariants as definitions
use Rattle.rv_object_laws.specs.Object.{Relocation, Symbol, Object}
use Rattle.rv_object_laws.specs.Bindings.{is_weak}
use Rattle.rv_assemble_laws.specs.LaidStatements.{LaidStatement, expression_value, laid_in, Tile}
use Rattle.rv_assemble_laws.specs.Symbols.{laid_at, after_statement, IsOwn, IsDefinedBy, StandsFor}
use Rattle.rv_assemble_laws.specs.IsObjectOf.{IsObjectOf}
use Rattle.rv_sources_link_theorems.proofs.moves.MovedLemmas.{AddsInData, adds}
use Rattle.rv_sources_link_theorems.proofs.statements.SettledLemmas.{IsSettled}
use Rattle.rv_link_laws.specs.Lists.{In}
use Rattle.rv_assemble_laws.proofs.OrdinalsLemmas.{ordinal_by}
use Rattle.rv_reach_theorems.proofs.BranchingLemmas.{IsBranchForm, HasForms}
use Rattle.rv_reach_theorems.proofs.FieldingLemmas.{IsBranchOf}

-- how far the form of a field reaches
abbrev pub half_of : Kind → ℕ
half_of kinds.Branch = 2 ^ 12
half_of kinds.RvcBranch = 2 ^ 8
half_of kinds.RvcJump = 2 ^ 11
half_of _ = 0

-- ---- lists

index_in : (x : LaidStatement) (xs : List LaidStatement) → In x xs → (k : ℕ) × (slice_get xs k ≡ Some x)
index_in x [] i = elim i [ ]
index_in x (y ∷ ys) (inl same) = (0, ap Some same)
index_in x (y ∷ ys) (inr i) = let rest = index_in x ys i in (suc rest.0, rest.1)

in_whole : (j : ℕ) (x : LaidStatement) (xs : List LaidStatement) → In x (laid_in j xs) → In x xs × (x.located.section ≡ j)
in_whole j x [] i = elim i [ ]
in_whole j x (y ∷ ys) i = by (y.located.section == j) refl i (λ k. in_whole j x ys k)
  where
    by : (b : Bool) → (y.located.section == j) ≡ b → In x (if b then y ∷ laid_in j ys else laid_in j ys) → (In x (laid_in j ys) → In x ys × (x.located.section ≡ j)) → In x (y ∷ ys) × (x.located.section ≡ j)
    by true e (inl same) more = (inl same, ap (λ (s : LaidStatement). s.located.section) (sym same) ∙ eqb-true y.located.section j e)
    by true e (inr i) more = let k = more i in (inr k.0, k.1)
    by false e i more = let k = more i in (inr k.0, k.1)

-- the statement of an ordinal
found_laid : (n : ℕ) (laid : List LaidStatement) (l : Located) → find (λ (s : Located). s.ordinal == n) (map (λ (s : LaidStatement). s.located) laid) ≡ Some l
    → (z : LaidStatement) × (laid_at laid n ≡ Some z) × (z.located ≡ l) × ((k : ℕ) × (slice_get laid k ≡ Some z)) × (z.located.ordinal ≡ n)
found_laid n [] l e = absurd (cc)
found_laid n (s ∷ laid) l e = by (s.located.ordinal == n) refl e (λ f. found_laid n laid l f)
  where
    by : (b : Bool) → (s.located.ordinal == n) ≡ b → (if b then Some s.located else find (λ (s : Located). s.ordinal == n) (map (λ (s : LaidStatement). s.located) laid)) ≡ Some l
        → (find (λ (s : Located). s.ordinal == n) (map (λ (s : LaidStatement). s.located) laid) ≡ Some l
        → (z : LaidStatement) × (laid_at laid n ≡ Some z) × (z.located ≡ l) × ((k : ℕ) × (slice_get laid k ≡ Some z)) × (z.located.ordinal ≡ n))
        → (z : LaidStatement) × ((if s.located.ordinal == n then Some s else laid_at laid n) ≡ Some z) × (z.located ≡ l) × ((k : ℕ) × (slice_get (s ∷ laid) k ≡ Some z)) × (z.located.ordinal ≡ n)
    by true same e more =
        let located : s.located ≡ l = cc in
        (s, ap (λ b. if b then Some s else laid_at laid n) same, located, (0, refl), eqb-true s.located.ordinal n same)
    by false other e more =
        let (z, at, located, (k, there), ordinal) = more e in
        (z, ap (λ b. if b then Some s else laid_at laid n) other ∙ at, located, (suc k, there), ordinal)

-- ---- the items of statements

item_section : (t : Tables) (all : List Located) (s : Located) (bytes : ℕ) (kind : StatementKind) → (item_by_kind t all s bytes kind).section ≡ s.section
item_section t all s bytes (Label name) = refl
item_section t all s bytes (Numbered digits) = refl
item_section t all s bytes (Directs d) = refl
item_section t all s bytes (Instruction m os) = by (near_forms s.options.rvc m os)
  where
    near : (f : Forms) (n : Option Near) → (branch_item s f n).section ≡ s.section
    near f None = refl
    near f (Some n) = refl

    by : (f : Option Forms) → (item_by t all s bytes os f).section ≡ s.section
    by None = refl
    by (Some (Settled size)) = refl
    by (Some CompressedBranch) = near CompressedBranch (near_target t all s os)
    by (Some FullBranch) = near FullBranch (near_target t all s os)
    by (Some CompressedJump) = near CompressedJump (near_target t all s os)

module _ (t : Tables) (all : List Located) where
  abbrev items : List LaidStatement → List Item
  items zs = items_of t all (map (λ (z : LaidStatement). z.located) zs) (map (λ (z : LaidStatement). z.bytes) zs)

  abbrev sizes : List LaidStatement → List ℕ
  sizes zs = map (λ (z : LaidStatement). z.bytes) zs

  item_is : (zs : List LaidStatement) (i : ℕ) (z : LaidStatement) → slice_get zs i ≡ Some z → item_at (items zs) i ≡ item_by_kind t all z.located z.bytes z.located.kind
  item_is [] i z e = absurd (cc)
  item_is (y ∷ ys) zero z e = let same : y ≡ z = cc in ap (λ (x : LaidStatement). item_by_kind t all x.located x.bytes x.located.kind) same
  item_is (y ∷ ys) (suc i) z e = item_is ys i z e

  bytes_is : (zs : List LaidStatement) (i : ℕ) (z : LaidStatement) → slice_get zs i ≡ Some z → slice_index (sizes zs) i ≡ z.bytes
  bytes_is [] i z e = absurd (cc)
  bytes_is (y ∷ ys) zero z e = let same : y ≡ z = cc in ap (λ (x : LaidStatement). x.bytes) same
  bytes_is (y ∷ ys) (suc i) z e = bytes_is ys i z e

  -- the bytes before a statement in its section
  before : (j : ℕ) (q : ℕ) (zs : List LaidStatement) → Tile t q (laid_in j zs) → (i : ℕ) (z : LaidStatement) → slice_get zs i ≡ Some z → z.located.section ≡ j
      → z.offset ≡ q + offset (of_section j (items zs) (sizes zs)) i
  before j q [] tile i z e stands = absurd (cc)
  before j q (y ∷ ys) tile zero z e stands = by (y.located.section == j) refl tile
    where
      same : y ≡ z
      same = let f : ◌≡◌ {A = Option LaidStatement} (Some y) (Some z) = e in let g : y ≡ z = cc in g

      by : (b : Bool) → (y.located.section == j) ≡ b → Tile t q (if b then y ∷ laid_in j ys else laid_in j ys) → z.offset ≡ q + 0
      by true f (off, bytes, rest) = ap (λ (s : LaidStatement). s.offset) (sym same) ∙ off ∙ (let g : q ≡ q + 0 = omega arith in g)
      by false f h = absurd (never (y.located.section == j) f (eq-eqb y.located.section j (ap (λ (s : LaidStatement). s.located.section) same ∙ stands)))
        where
          never : (b : Bool) → b ≡ false → b ≡ true → ⊥
          never true f g = absurd (cc)
          never false f g = absurd (cc)
  before j q (y ∷ ys) tile (suc i) z e stands = by (y.located.section == j) refl tile (λ r h. before j r ys h i z e stands)
    where
      rest : List ℕ
      rest = of_section j (items ys) (sizes ys)

      item : Item
      item = item_by_kind t all y.located y.bytes y.located.kind

      here : (b : Bool) → (y.located.section == j) ≡ b → offset (of_section j (items (y ∷ ys)) (sizes (y ∷ ys))) (suc i) ≡ (if b then y.bytes else 0) + offset rest i
      here b f =
          sum_by-cons (λ x. x) (if item.section == j then y.bytes else 0) (take i rest)
          ∙ ap (λ s. (if s == j then y.bytes else 0) + offset rest i) (item_section t all y.located y.bytes y.located.kind)
          ∙ ap (λ c. (if c then y.bytes else 0) + offset rest i) f

      by : (b : Bool) → (y.located.section == j) ≡ b → Tile t q (if b then y ∷ laid_in j ys else laid_in j ys) → ((r : ℕ) → Tile t r (laid_in j ys) → z.offset ≡ r + offset rest i)
          → z.offset ≡ q + offset (of_section j (items (y ∷ ys)) (sizes (y ∷ ys))) (suc i)
      by true f (off, bytes, h) more =
          let e1 = more (q + y.bytes) h in
          let e2 = here true f in
          let a = offset rest i in
          let b = offset (of_section j (items (y ∷ ys)) (sizes (y ∷ ys))) (suc i) in
          let k : b ≡ y.bytes + a = e2 in
          e1 ∙ (let g : q + y.bytes + a ≡ q + b = omega (arith, k) in g)
      by false f h more =
          let e1 = more q h in
          let e2 = here false f in
          let a = offset rest i in
          let b = offset (of_section j (items (y ∷ ys)) (sizes (y ∷ ys))) (suc i) in
          let k : b ≡ 0 + a = e2 in
          e1 ∙ (let g : q + a ≡ q + b = omega (arith, k) in g)

-- ---- where it leads

pub record IsNear (ss : List Statement) (o : Object) (is : IsObjectOf ss o) (j : ℕ) (r : Relocation) : Type 0 where
  pub symbol : ℕ
  pub symbol_is : r.symbol ≡ Some symbol
  pub x : Symbol
  pub there : slice_get o.symbols symbol ≡ Some x
  -- no other file's definition is meant
  pub strong : is_weak x.binding ≡ false
  pub from : LaidStatement
  pub to : LaidStatement
  pub in_from : In from (laid_in j is.laid)
  pub in_to : (In to is.laid) × (to.located.section ≡ j)
  pub place_is : r.place ≡ from.offset
  pub at : x.definition ≡ definitions.InSection j to.offset
  pub reaches : Reaches (half_of r.kind) r.addend (pos to.offset -ℤ pos from.offset)

-- a definition that no other file's gives way to
sure_is : (t : Tables) (ordinal : ℕ) (q : Primary) (d : Definition) → sure_definition t ordinal q ≡ Some d → (definition t ordinal q ≡ Some d) × (gives_way t q ≡ false)
sure_is t ordinal q d e = by (gives_way t q) refl e
  where
    by : (b : Bool) → gives_way t q ≡ b → (if b then None else definition t ordinal q) ≡ Some d → (definition t ordinal q ≡ Some d) × (gives_way t q ≡ false)
    by true f e = absurd (cc)
    by false f e = (e, f)

-- a target in the same section
record IsTarget (all : List Located) (section : ℕ) (d : Option Definition) (plus : ℕ) (n : Near) : Type 0 where
  pub it : Definition
  pub is : d ≡ Some it
  pub located : Located
  pub found : find (λ (s : Located). s.ordinal == it.ordinal) all ≡ Some located
  pub stands : located.section ≡ section
  pub ordinal : n.ordinal ≡ it.ordinal
  pub addend : n.addend ≡ int_wrap w64 (pos plus)

target_of : (all : List Located) (section : ℕ) (d : Option Definition) (plus : ℕ) (n : Near) → near_at all section d plus ≡ Some n → IsTarget all section d plus n
target_of all section None plus n e = absurd (cc)
target_of all section (Some d) plus n e = by (find (λ (s : Located). s.ordinal == d.ordinal) all) refl e
  where
    near : Near
    near = record { ordinal = d.ordinal; addend = int_wrap w64 (pos plus) }

    by : (f : Option Located) → find (λ (s : Located). s.ordinal == d.ordinal) all ≡ f
        → (elim f [ None ↦ None | Some s ↦ if s.section == section then Some near else None ]) ≡ Some n → IsTarget all section (Some d) plus n
    by None f e = absurd (cc)
    by (Some s) f e = go (s.section == section) refl e
      where
        go : (b : Bool) → (s.section == section) ≡ b → (if b then Some near else None) ≡ Some n → IsTarget all section (Some d) plus n
        go true g e =
            let same : near ≡ n = cc in
            record { it = d; is = refl; located = s; found = f; stands = eqb-true s.section section g; ordinal = ap (λ (x : Near). x.ordinal) (sym same); addend = ap (λ (x : Near). x.addend) (sym same) }
        go false g e = absurd (cc)

-- the item of a statement with a field of this kind, and how far it reaches
record IsReaching (s : Located) (kind : Kind) (bytes : ℕ) (item : Item) (near : Option Near) : Type 0 where
  pub n : Near
  pub near_is : near ≡ Some n
  pub section : item.section ≡ s.section
  pub target : item.target ≡ n.ordinal - 1
  pub addend : item.addend ≡ n.addend
  pub less : bytes < largest item.forms
  pub half_is : half item.forms bytes ≡ half_of kind

two_of : (bytes : ℕ) → (bytes == 2) ≡ true → bytes ≡ 2
two_of bytes e = eqb-true bytes 2 e

bottom : {A : Type 0} → ⊥ → A
bottom h = absurd h

reaching_branch : (s : Located) (bytes : ℕ) (forms : Forms) (near : Option Near) → (bytes == 2) ≡ false → (bytes == 8) ≡ false → IsBranchForm forms → Offers (branch_item s forms near).forms bytes
    → IsReaching s kinds.Branch bytes (branch_item s forms near) near
reaching_branch s bytes forms None a b (inl f) offers =
    bottom (not_equal bytes 8 b (subst (λ g. Offers (branch_item s g None).forms bytes) f offers))
reaching_branch s bytes forms None a b (inr f) offers =
    bottom (not_equal bytes 8 b (subst (λ g. Offers (branch_item s g None).forms bytes) f offers))
reaching_branch s bytes forms (Some n) a b (inl f) offers =
    subst (λ g. Offers g bytes → IsReaching s kinds.Branch bytes (branch_item s g (Some n)) (Some n)) (sym f) by offers
  where
    by : Offers CompressedBranch bytes → IsReaching s kinds.Branch bytes (branch_item s CompressedBranch (Some n)) (Some n)
    by (inl two) = bottom (not_equal bytes 2 a two)
    by (inr (inl four)) = record { n = n; near_is = refl; section = refl; target = refl; addend = refl; less = omega (arith, four); half_is = ap (λ c. if c then 2 ^ 8 else 2 ^ 12) a }
    by (inr (inr eight)) = bottom (not_equal bytes 8 b eight)
reaching_branch s bytes forms (Some n) a b (inr f) offers =
    subst (λ g. Offers g bytes → IsReaching s kinds.Branch bytes (branch_item s g (Some n)) (Some n)) (sym f) by offers
  where
    by : Offers FullBranch bytes → IsReaching s kinds.Branch bytes (branch_item s FullBranch (Some n)) (Some n)
    by (inl four) = record { n = n; near_is = refl; section = refl; target = refl; addend = refl; less = omega (arith, four); half_is = refl }
    by (inr eight) = bottom (not_equal bytes 8 b eight)

reaching_short : (s : Located) (bytes : ℕ) (forms : Forms) (near : Option Near) → (bytes == 2) ≡ true → IsBranchForm forms → Offers (branch_item s forms near).forms bytes
    → IsReaching s kinds.RvcBranch bytes (branch_item s forms near) near
reaching_short s bytes forms None a (inl f) offers =
    let eight : bytes ≡ 8 = subst (λ g. Offers (branch_item s g None).forms bytes) f offers in let two = two_of bytes a in absurd (omega (arith, eight, two))
reaching_short s bytes forms None a (inr f) offers =
    let eight : bytes ≡ 8 = subst (λ g. Offers (branch_item s g None).forms bytes) f offers in let two = two_of bytes a in absurd (omega (arith, eight, two))
reaching_short s bytes forms (Some n) a (inl f) offers =
    subst (λ g. IsReaching s kinds.RvcBranch bytes (branch_item s g (Some n)) (Some n)) (sym f)
    (record { n = n; near_is = refl; section = refl; target = refl; addend = refl; less = (let two = two_of bytes a in omega (arith, two)); half_is = ap (λ c. if c then 2 ^ 8 else 2 ^ 12) a })
reaching_short s bytes forms (Some n) a (inr f) offers =
    subst (λ g. Offers g bytes → IsReaching s kinds.RvcBranch bytes (branch_item s g (Some n)) (Some n)) (sym f) by offers
  where
    by : Offers FullBranch bytes → IsReaching s kinds.RvcBranch bytes (branch_item s FullBranch (Some n)) (Some n)
    by (inl four) = let two = two_of bytes a in absurd (omega (arith, four, two))
    by (inr eight) = let two = two_of bytes a in absurd (omega (arith, eight, two))

reaching_jump : (s : Located) (bytes : ℕ) (near : Option Near) → (bytes == 2) ≡ true → Offers (branch_item s CompressedJump near).forms bytes → IsReaching s kinds.RvcJump bytes (branch_item s CompressedJump near) near
reaching_jump s bytes None a offers = let four : bytes ≡ 4 = offers in let two = two_of bytes a in absurd (omega (arith, four, two))
reaching_jump s bytes (Some n) a offers = record { n = n; near_is = refl; section = refl; target = refl; addend = refl; less = (let two = two_of bytes a in omega (arith, two)); half_is = refl }

item_reaching : (t : Tables) (all : List Located) (s : Located) (bytes : ℕ) (os : List Operand) (kind : Kind) (forms : Forms) → (kind ≡ kinds.Branch) ⊎ ((kind ≡ kinds.RvcBranch) ⊎ (kind ≡ kinds.RvcJump)) → HasForms kind bytes forms
    → Offers (item_by t all s bytes os (Some forms)).forms bytes → IsReaching s kind bytes (item_by t all s bytes os (Some forms)) (near_target t all s os)
item_reaching t all s bytes os kind forms (inl k) has offers = subst (λ q. HasForms q bytes forms → IsReaching s q bytes (item_by t all s bytes os (Some forms)) (near_target t all s os)) (sym k) by has
  where
    of_form : IsBranchForm forms → item_by t all s bytes os (Some forms) ≡ branch_item s forms (near_target t all s os)
    of_form (inl f) = subst (λ g. item_by t all s bytes os (Some g) ≡ branch_item s g (near_target t all s os)) (sym f) refl
    of_form (inr f) = subst (λ g. item_by t all s bytes os (Some g) ≡ branch_item s g (near_target t all s os)) (sym f) refl

    by : HasForms kinds.Branch bytes forms → IsReaching s kinds.Branch bytes (item_by t all s bytes os (Some forms)) (near_target t all s os)
    by (a, b, is) =
        subst (λ (i : Item). IsReaching s kinds.Branch bytes i (near_target t all s os)) (sym (of_form is))
        (reaching_branch s bytes forms (near_target t all s os) a b is (subst (λ (i : Item). Offers i.forms bytes) (of_form is) offers))
item_reaching t all s bytes os kind forms (inr (inl k)) has offers = subst (λ q. HasForms q bytes forms → IsReaching s q bytes (item_by t all s bytes os (Some forms)) (near_target t all s os)) (sym k) by has
  where
    of_form : IsBranchForm forms → item_by t all s bytes os (Some forms) ≡ branch_item s forms (near_target t all s os)
    of_form (inl f) = subst (λ g. item_by t all s bytes os (Some g) ≡ branch_item s g (near_target t all s os)) (sym f) refl
    of_form (inr f) = subst (λ g. item_by t all s bytes os (Some g) ≡ branch_item s g (near_target t all s os)) (sym f) refl

    by : HasForms kinds.RvcBranch bytes forms → IsReaching s kinds.RvcBranch bytes (item_by t all s bytes os (Some forms)) (near_target t all s os)
    by (a, is) =
        subst (λ (i : Item). IsReaching s kinds.RvcBranch bytes i (near_target t all s os)) (sym (of_form is))
        (reaching_short s bytes forms (near_target t all s os) a is (subst (λ (i : Item). Offers i.forms bytes) (of_form is) offers))
item_reaching t all s bytes os kind forms (inr (inr k)) has offers = subst (λ q. HasForms q bytes forms → IsReaching s q bytes (item_by t all s bytes os (Some forms)) (near_target t all s os)) (sym k) by has
  where
    by : HasForms kinds.RvcJump bytes forms → IsReaching s kinds.RvcJump bytes (item_by t all s bytes os (Some forms)) (near_target t all s os)
    by (a, inl f) =
        subst (λ g. Offers (item_by t all s bytes os (Some g)).forms bytes → IsReaching s kinds.RvcJump bytes (item_by t all s bytes os (Some g)) (near_target t all s os)) (sym f)
        (reaching_jump s bytes (near_target t all s os) a) offers
    by (a, inr f) =
        let four : bytes ≡ 4 = subst (λ g. Offers (item_by t all s bytes os (Some g)).forms bytes) f offers in
        let two = two_of bytes a in absurd (omega (arith, four, two))

module _ (ss : List Statement) (o : Object) (is : IsObjectOf ss o) (j : ℕ) (section : SourceSection) (at_j : slice_get (opened_of (tables ss)).sections j ≡ Some section) (code : section.executable ≡ true)
    (settled : AllByRecursion (IsSettled (opened_of (tables ss)).sections) is.laid) (tile : Tile (tables ss) 0 (laid_in j is.laid))
    (low : (z : LaidStatement) → In z is.laid → z.located.section ≡ j → z.offset ≤ longest_section) where
  abbrev t : Tables
  t = tables ss

  abbrev all : List Located
  all = map (λ (z : LaidStatement). z.located) is.laid

  good : IsGood (items (tables ss) (map (λ (z : LaidStatement). z.located) is.laid) is.laid) (map (λ (z : LaidStatement). z.bytes) is.laid)
  good = subst (λ ls. IsGood (items_of (tables ss) ls ls (map (λ (z : LaidStatement). z.bytes) is.laid)) (map (λ (z : LaidStatement). z.bytes) is.laid)) (sym is.located) is.least.good

  all_at : (P : LaidStatement → Type 0) (xs : List LaidStatement) (k : ℕ) (x : LaidStatement) → AllByRecursion P xs → slice_get xs k ≡ Some x → P x
  all_at P [] k x h e = absurd (cc)
  all_at P (y ∷ ys) zero x (one, h) e = let same : y ≡ x = cc in subst P same one
  all_at P (y ∷ ys) (suc k) x (one, h) e = all_at P ys k x h e

  got_in : (xs : List LaidStatement) (k : ℕ) (x : LaidStatement) → slice_get xs k ≡ Some x → In x xs
  got_in [] k x e = absurd (cc)
  got_in (y ∷ ys) zero x e = inl (let same : y ≡ x = cc in same)
  got_in (y ∷ ys) (suc k) x e = inr (got_in ys k x e)

  pub near : (r : Relocation) → (r.kind ≡ kinds.Branch) ⊎ ((r.kind ≡ kinds.RvcBranch) ⊎ (r.kind ≡ kinds.RvcJump)) → IsBranchOf t is.laid is.number o.symbols (laid_in j is.laid) r → IsNear ss o is j r
  near r short b = by_symbol (slice_get o.symbols (is.number z.located.ordinal b.name)) refl b.numbered
    where
      z : LaidStatement
      z = b.z

      whole : In b.z is.laid × (b.z.located.section ≡ j)
      whole = in_whole j b.z is.laid b.inside

      place : (k : ℕ) × (slice_get is.laid k ≡ Some b.z)
      place = index_in b.z is.laid whole.0

      item_here : item_at (items (tables ss) all is.laid) place.0 ≡ item_by t all b.z.located b.z.bytes b.os (Some b.branching.forms)
      item_here =
          item_is t all is.laid place.0 b.z place.1
          ∙ ap (item_by_kind t all b.z.located b.z.bytes) b.is_kind
          ∙ ap (item_by t all b.z.located b.z.bytes b.os) b.branching.chosen

      item : Item
      item = item_by t all b.z.located b.z.bytes b.os (Some b.branching.forms)

      size_here : slice_index (map (λ (z : LaidStatement). z.bytes) is.laid) place.0 ≡ b.z.bytes
      size_here = bytes_is t all is.laid place.0 b.z place.1

      reach : IsReaching b.z.located r.kind b.z.bytes (item_by t all b.z.located b.z.bytes b.os (Some b.branching.forms)) (near_target t all b.z.located b.os)
      reach =
          item_reaching t all b.z.located b.z.bytes b.os r.kind b.branching.forms short b.branching.has
          (subst (λ n. Offers (item_by t all b.z.located b.z.bytes b.os (Some b.branching.forms)).forms n) size_here
          (subst (λ (x : Item). Offers x.forms (slice_index (map (λ (z : LaidStatement). z.bytes) is.laid) place.0)) item_here (good.family.offered place.0)))

      target : IsTarget all b.z.located.section (sure_definition t b.z.located.ordinal b.name) b.plus reach.n
      target = target_of all b.z.located.section (sure_definition t b.z.located.ordinal b.name) b.plus reach.n
          (sym (ap (λ x. elim x [ None ↦ None | Some e ↦ near_value t all b.z.located (expression_value t b.z.located e) ]) b.branching.target ∙ ap (near_value t all b.z.located) b.value_is) ∙ reach.near_is)

      sure : (definition t b.z.located.ordinal b.name ≡ Some target.it) × (gives_way t b.name ≡ false)
      sure = sure_is t b.z.located.ordinal b.name target.it target.is

      found : (z : LaidStatement) × (laid_at is.laid target.it.ordinal ≡ Some z) × (z.located ≡ target.located) × ((k : ℕ) × (slice_get is.laid k ≡ Some z)) × (z.located.ordinal ≡ target.it.ordinal)
      found = found_laid target.it.ordinal is.laid target.located target.found

      to : LaidStatement
      to = found.0

      to_stands : found.0.located.section ≡ j
      to_stands = ap (λ (l : Located). l.section) found.2 ∙ target.stands ∙ whole.1

      index_is : reach.n.ordinal - 1 ≡ found.3.0
      index_is =
          let a = target.ordinal in
          let b1 = found.4 in
          let c = ordinal_by 1 (at_start ss) ss is.laid is.located found.3.0 found.0 found.3.1 in
          omega (arith, a, b1, c)

      from_is : b.z.offset ≡ 0 + offset (of_section j (items t all is.laid) (map (λ (z : LaidStatement). z.bytes) is.laid)) place.0
      from_is = before t all j 0 is.laid tile place.0 b.z place.1 whole.1

      to_is : found.0.offset ≡ 0 + offset (of_section j (items t all is.laid) (map (λ (z : LaidStatement). z.bytes) is.laid)) found.3.0
      to_is = before t all j 0 is.laid tile found.3.0 found.0 found.3.1 to_stands

      far : ReachesBy (items t all is.laid) (map (λ (z : LaidStatement). z.bytes) is.laid) place.0 b.z.bytes
      far = subst (ReachesBy (items t all is.laid) (map (λ (z : LaidStatement). z.bytes) is.laid) place.0) size_here
          (good.reaching place.0 (let e = ap (λ (x : Item). largest x.forms) item_here in let s = size_here in let l = reach.less in omega (arith, e, s, l)))

      abbrev_offset : ℕ → ℕ
      abbrev_offset k = offset (of_section j (items t all is.laid) (map (λ (z : LaidStatement). z.bytes) is.laid)) k

      reaches : Reaches (half_of r.kind) reach.n.addend (pos found.0.offset -ℤ pos b.z.offset)
      reaches =
          subst (λ h. Reaches h reach.n.addend (pos found.0.offset -ℤ pos b.z.offset)) reach.half_is
          (subst (λ a. Reaches (half item.forms b.z.bytes) a (pos found.0.offset -ℤ pos b.z.offset)) reach.addend
          (subst (λ n. Reaches (half item.forms b.z.bytes) item.addend (pos n -ℤ pos b.z.offset)) (sym (to_is ∙ plain found.3.0))
          (subst (λ n. Reaches (half item.forms b.z.bytes) item.addend (pos (abbrev_offset found.3.0) -ℤ pos n)) (sym (from_is ∙ plain place.0))
          (subst (λ k. Reaches (half item.forms b.z.bytes) item.addend (pos (abbrev_offset k) -ℤ pos (abbrev_offset place.0))) (reach.target ∙ index_is)
          (subst (λ q. Reaches (half item.forms b.z.bytes) item.addend (distance (of_section q (items t all is.laid) (map (λ (z : LaidStatement). z.bytes) is.laid)) place.0 item.target)) (reach.section ∙ whole.1)
          (subst (λ (x : Item). Reaches (half x.forms b.z.bytes) x.addend (distance (of_section x.section (items t all is.laid) (map (λ (z : LaidStatement). z.bytes) is.laid)) place.0 x.target)) item_here far))))))
        where
          plain : (k : ℕ) → 0 + abbrev_offset k ≡ abbrev_offset k
          plain k = omega arith

      low_to : found.0.offset ≤ longest_section
      low_to = low found.0 (got_in is.laid found.3.0 found.0 found.3.1) to_stands

      settled_to : IsSettled (opened_of (tables ss)).sections found.0
      settled_to = all_at (IsSettled (opened_of (tables ss)).sections) is.laid found.3.0 found.0 settled found.3.1

      home_to : found.0.located.home ≡ section
      home_to =
          let both : Some found.0.located.home ≡ Some section = sym settled_to.home ∙ ap (slice_get (opened_of (tables ss)).sections) to_stands ∙ at_j in
          let same : found.0.located.home ≡ section = cc in same

      stays : add found.0.offset target.it.plus ≡ found.0.offset
      stays = go (adds t is.laid is.places b.z.located.ordinal b.name target.it sure.0)
        where
          go : AddsInData t is.laid is.places target.it → add found.0.offset target.it.plus ≡ found.0.offset
          go (inl none) =
              let bound : found.0.offset ≤ 268435456 = low_to in
              ap (add found.0.offset) none ∙ (let g : add found.0.offset 0 ≡ found.0.offset = omega (arith, bound) in g)
          go (inr aside) = absurd (let e : true ≡ false = sym (ap (λ (s : SourceSection). s.executable) home_to ∙ code) ∙ aside found.0 found.1 in cc)

      by_symbol : (y : Option Symbol) → slice_get o.symbols (is.number b.z.located.ordinal b.name) ≡ y → StandsFor t is.laid b.z.located.ordinal b.name y → IsNear ss o is j r
      by_symbol None e s = absurd s
      by_symbol (Some x) e (named, weak, s) = go (subst (λ d. IsDefinedBy is.laid b.name d x) sure.0 s)
        where
          go : IsOwn is.laid target.it x → IsNear ss o is j r
          go (y, at_y, placed, def) =
              let both : ◌≡◌ {A = Option LaidStatement} (Some y) (Some found.0) = sym at_y ∙ found.1 in
              let same : y ≡ found.0 = cc in
              record {
                symbol = is.number b.z.located.ordinal b.name;
                symbol_is = ap (λ (q : Relocation). q.symbol) b.is;
                x = x;
                there = e;
                strong = weak ∙ sure.1;
                from = b.z;
                to = found.0;
                in_from = b.inside;
                in_to = (got_in is.laid found.3.0 found.0 found.3.1, to_stands);
                place_is = ap (λ (q : Relocation). q.place) b.is;
                at = def ∙ ap (λ (q : LaidStatement). after_statement q target.it.plus) same ∙ ap (λ n. definitions.InSection n (add found.0.offset target.it.plus)) to_stands ∙ ap (definitions.InSection j) stays;
                reaches = subst (λ a. Reaches (half_of r.kind) a (pos found.0.offset -ℤ pos b.z.offset)) (target.addend ∙ sym (ap (λ (q : Relocation). q.addend) b.is)) reaches;
              }
