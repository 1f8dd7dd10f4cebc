-- The sizes of the statements of a source are one family: those of code as the least that reach, those of data as they
-- follow one another.

use Rattle.std.proofs.Common.{◌≡◌, ℕ, ◌+◌, Bool, true, false, List, [], ◌∷◌, refl, sym, ap, ◌∙◌, subst, Option}
use Rattle.std.specs.List.{AllByRecursion}
use Rattle.rv_expression_laws.specs.Values.{Value, Constant}
use Rattle.rv_statement_laws.specs.Statement.{StatementKind, Label, Numbered, Instruction, Directs, Expression, Directive, Data, Values, Strings, Zeros, Aligns, Emits}
use Rattle.rv_unit_laws.specs.Sections.{Section}
use Rattle.rv_unit_laws.specs.Tables.{Tables, alignment_of, padding, HasDataSize}
use Rattle.rv_object_laws.specs.Padding.{operations_in}
use Rattle.rv_source_laws.specs.Located.{Located}
use Rattle.rv_source_laws.proofs.HeldLemmas.{IsHeld}
use Rattle.rv_assemble_laws.specs.LaidStatements.{LaidStatement, expression_value, Tile, IsPaddedIn, DirectiveSize, HasSize}
use Rattle.rv_unique_theorems.proofs.PairsLemmas.{Pairs, SameBy, SameBytes}
use Rattle.rv_unique_theorems.proofs.SaidLemmas.{IsSaid, bare_size, code_bytes, in_code}

-- ---- the sizes of one statement

padded_one : (code : Bool) (s q : LaidStatement) (alignment : Option ℕ) → (code ≡ false → s.offset ≡ q.offset) → IsPaddedIn code s alignment → IsPaddedIn code q alignment
    → (s.bytes ≡ q.bytes) × (s.instructions ≡ q.instructions)
padded_one true s q alignment at (n, i) (m, j) =
    let same : s.bytes ≡ q.bytes = n ∙ sym m in (same, i ∙ ap operations_in same ∙ sym j)
padded_one false s q alignment at (n, i) (m, j) = (n ∙ ap (padding alignment) (at refl) ∙ sym m, i ∙ sym j)

constant_one : (n m : ℕ) → Constant n ≡ Constant m → n ≡ m
constant_one n m e = cc

one_data_size : (v : Expression → Value) (n m : ℕ) (contents : Data) → HasDataSize v contents n → HasDataSize v contents m → n ≡ m
one_data_size v n m (Values width values) h k = h ∙ sym k
one_data_size v n m (Strings ended strings) h k = h ∙ sym k
one_data_size v n m (Zeros count) h k = constant_one n m (sym h ∙ k)

-- a directive's, in data by where it stands
pub directive_one : (v : Expression → Value) (s q : LaidStatement) (a b : ℕ) (d : Directive) → s.located ≡ q.located → (s.located.home.executable ≡ false → s.offset ≡ q.offset)
    → DirectiveSize v s a d → DirectiveSize v q b d → (s.bytes ≡ q.bytes) × (s.instructions ≡ q.instructions)
directive_one v s q a b (Emits contents) l at (i, n) (j, m) = (one_data_size v s.bytes q.bytes contents n m, i ∙ sym j)
directive_one v s q a b (Aligns form x) l at (c, m, h) (d, n, k) =
    padded_one s.located.home.executable s q (alignment_of v (Aligns form x)) at h
    (subst (λ (z : Located). IsPaddedIn z.home.executable q (alignment_of v (Aligns form x))) (sym l) k)
directive_one v s q a b d l at h k = (h.0 ∙ sym k.0, h.1 ∙ sym k.1)

-- ---- the statements of two objects

-- with as many bytes in sections of code
abbrev pub SameCode : LaidStatement → LaidStatement → Type 0
SameCode x y = SameBy code_bytes x y

module _ (t : Tables) where
  abbrev SizeOf : LaidStatement → ℕ → LaidStatement → StatementKind → Type 0
  SizeOf z multiple s kind = HasSize (expression_value t z.located) s multiple kind

  same_size : (s q : LaidStatement) (b : ℕ) → s.located ≡ q.located → HasSize (expression_value t q.located) q b q.located.kind → SizeOf s b q s.located.kind
  same_size s q b l k = subst (λ (z : Located). HasSize (expression_value t z) q b z.kind) (sym l) k

  -- in data a statement's bytes go by where it stands
  data_by : (s q : LaidStatement) (a b : ℕ) (kind : StatementKind) → s.located ≡ q.located → s.located.home.executable ≡ false → IsHeld s.located.home kind → s.offset ≡ q.offset
      → SizeOf s a s kind → SizeOf s b q kind → s.bytes ≡ q.bytes
  data_by s q a b (Label name) l outside held at (n, i) (m, j) = n ∙ sym m
  data_by s q a b (Numbered number) l outside held at (n, i) (m, j) = n ∙ sym m
  data_by s q a b (Instruction mnemonic os) l outside (code, stored) at h k = absurd (let both : true ≡ false = sym code ∙ outside in cc)
  data_by s q a b (Directs d) l outside held at h k = (directive_one (expression_value t s.located) s q a b d l (λ e. at) h k).0

  data_one : (s q : LaidStatement) (a b : ℕ) (placed : Bool) → s.located.placed ≡ placed → s.located ≡ q.located → s.located.home.executable ≡ false → s.offset ≡ q.offset
      → IsSaid t a s → IsSaid t b q → s.bytes ≡ q.bytes
  data_one s q a b true e l outside at h k =
      data_by s q a b s.located.kind l outside h.held at (h.size e) (same_size s q b l (k.size (ap (λ (z : Located). z.placed) (sym l) ∙ e)))
  data_one s q a b false e l outside at h k = bare_size t a s h e ∙ sym (bare_size t b q k (ap (λ (z : Located). z.placed) (sym l) ∙ e))

  -- ---- the statements of a section

  abbrev In : Section → ℕ → LaidStatement → Type 0
  In home multiple s = (s.located.home ≡ home) × IsSaid t multiple s

  in_data_bytes : (home : Section) (a b : ℕ) → home.executable ≡ false → (o p : ℕ) → o ≡ p → (xs ys : List LaidStatement) → Pairs SameCode xs ys
      → Tile t o xs → Tile t p ys → AllByRecursion (In home a) xs → AllByRecursion (In home b) ys → Pairs SameBytes xs ys
  in_data_bytes home a b outside o p same [] [] l f g h k = tt
  in_data_bytes home a b outside o p same [] (y ∷ ys) l f g h k = absurd l
  in_data_bytes home a b outside o p same (x ∷ xs) [] l f g h k = absurd l
  in_data_bytes home a b outside o p same (x ∷ xs) (y ∷ ys) ((l, c), ls) (at, n, f) (there, m, g) ((is, h), hs) ((js, k), ks) =
      let bytes : x.bytes ≡ y.bytes =
      data_one x y a b x.located.placed refl l (ap (λ (z : Section). z.executable) is ∙ outside) (at ∙ same ∙ sym there) h k in
      let next : o + x.bytes ≡ p + y.bytes = ap (λ n. n + x.bytes) same ∙ ap (λ n. p + n) bytes in (
        (l, bytes),
        in_data_bytes home a b outside (o + x.bytes) (p + y.bytes) next xs ys ls f g hs ks,
      )

  in_code_bytes : (home : Section) (a b : ℕ) → home.executable ≡ true → (xs ys : List LaidStatement) → Pairs SameCode xs ys
      → AllByRecursion (In home a) xs → AllByRecursion (In home b) ys → Pairs SameBytes xs ys
  in_code_bytes home a b code [] [] l h k = tt
  in_code_bytes home a b code [] (y ∷ ys) l h k = absurd l
  in_code_bytes home a b code (x ∷ xs) [] l h k = absurd l
  in_code_bytes home a b code (x ∷ xs) (y ∷ ys) ((l, c), ls) ((is, h), hs) ((js, k), ks) =
      let here : x.located.home.executable ≡ true = ap (λ (z : Section). z.executable) is ∙ code in
      let there : y.located.home.executable ≡ true = ap (λ (z : Section). z.executable) js ∙ code in
      let bytes : x.bytes ≡ y.bytes = sym (in_code x.located.home.executable x.bytes here) ∙ c ∙ in_code y.located.home.executable y.bytes there in
      ((l, bytes), in_code_bytes home a b code xs ys ls hs ks)

  pub section_bytes : (home : Section) (a b : ℕ) (xs ys : List LaidStatement) → Pairs SameCode xs ys
      → Tile t 0 xs → Tile t 0 ys → AllByRecursion (In home a) xs → AllByRecursion (In home b) ys → Pairs SameBytes xs ys
  section_bytes home a b xs ys l f g h k = go home.executable refl
    where
      go : (code : Bool) → home.executable ≡ code → Pairs SameBytes xs ys
      go true e = in_code_bytes home a b e xs ys l h k
      go false e = in_data_bytes home a b e 0 0 refl xs ys l f g h k
