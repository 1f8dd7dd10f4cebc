-- The statements of sources in the linked program, beside those of their objects as the assembler makes them: which of their bytes are left.

use Rattle.std.proofs.Common.{◌≡◌, ℕ, suc, Bool, true, false, List, [], ◌∷◌, map, refl, sym, ap, ◌∙◌, subst}
use Rattle.std.specs.Prelude.{⊤, if◌then◌else◌}
use Rattle.std.specs.List.{AllByRecursion}
use Rattle.rv_list_laws.proofs.EachLemmas.{each_split}
use Rattle.rv_statement_laws.specs.declared.mnemonic.Mnemonic.{Mnemonic}
use Rattle.rv_statement_laws.specs.Statement.{StatementKind, Label, Numbered, Instruction, Directs, Statement, Operand, Expression}
use Rattle.rv_expression_laws.specs.Values.{Value}
use Rattle.rv_unit_laws.specs.Sections.{Section as SourceSection, goes_to_text as source_text}
use Rattle.rv_unit_laws.specs.Tables.{Tables, tables}
use Rattle.rv_source_laws.specs.Located.{Located}
use Rattle.rv_map_laws.specs.declared.map.SectionId.{SectionId}
use Rattle.rv_object_laws.specs.Object.{Object}
use Rattle.rv_link_laws.specs.Inputs.{Starts, inputs_from, inputs_of, goes_to_text}
use Rattle.rv_link_laws.specs.Moves.{Move}
use Rattle.rv_link_laws.specs.Shortened.{Sizes}
use Rattle.rv_source_laws.specs.Sized.{statement_size}
use Rattle.rv_source_laws.specs.Shortened.{is_call_statement}
use Rattle.rv_assemble_laws.specs.LaidStatements.{LaidStatement, expression_value}
use Rattle.rv_sources_link_theorems.proofs.sections.KeptLemmas.{IsKept, AreKept, AreMasked}
use Rattle.rv_sources_link_theorems.proofs.sections.MaskedLemmas.{source_sections}
use Rattle.rv_sources_link_theorems.proofs.sections.AssembledLemmas.{IsAssembled, AreAssembled}
use Rattle.rv_sources_link_theorems.proofs.statements.CountedLemmas.{bytes_with, size_before, IsCounted}
use Rattle.rv_sources_link_theorems.proofs.statements.SettledLemmas.{IsSettled, settled_left}
use Rattle.rv_sources_link_theorems.proofs.moves.ShrinkingLemmas.{shrunk_objects, moves_in}
use Rattle.rv_sources_link_theorems.proofs.moves.ShrinksLemmas.{Begun, begun_in, counted, objects_shrink, shrunk_is, shrunk_laid, shrunk_dropped}
use Rattle.rv_sources_link_theorems.proofs.moves.ShrunkLemmas as shrunk
use Rattle.rv_sources_link_theorems.proofs.moves.ShrunkSectionsLemmas.{laid_with}
use Rattle.rv_sources_link_theorems.proofs.calls.UncutLemmas.{IsUncut, all_uncut}

-- ---- what relaxation leaves of a statement

-- a call in text has the bytes of its size, and all else its own
abbrev pub IsResized : (ℕ → Sizes) → LaidStatement → LaidStatement → Type 0
IsResized sizes z y = (source_text z.located.home ≡ true → is_call_statement z.located.kind ≡ true → y.bytes ≡ sizes z.located.section z.offset) × (is_call_statement z.located.kind ≡ false → y.bytes ≡ z.bytes)

-- of an object
pub record IsCut (sizes : ℕ → Sizes) (ss : List Statement) (o : Object) (is : IsKept ss o) (u : Object) (js : IsAssembled ss u) : Type 0 where
  pub dropped : js.dropped ≡ is.dropped
  pub mv : LaidStatement → LaidStatement
  pub laid : js.laid ≡ map mv is.laid
  pub stays : (z : LaidStatement) → (mv z).located ≡ z.located
  pub resized : AllByRecursion (λ z. IsResized sizes z (mv z)) is.laid

-- of all, files numbered from one on
abbrev pub AreCut : (ℕ → ℕ → Sizes) → ℕ → (sources : List (List Statement)) (os : List Object) → AreKept sources os → (us : List Object) → AreAssembled sources us → Type 0
AreCut sizes file [] [] h us k = ⊤
AreCut sizes file [] (o ∷ os) h us k = absurd h
AreCut sizes file (ss ∷ sources) [] h us k = absurd h
AreCut sizes file (ss ∷ sources) (o ∷ os) (is, h) [] k = absurd k
AreCut sizes file (ss ∷ sources) (o ∷ os) (is, h) (u ∷ us) (js, k) = IsCut (sizes file) ss o is u js × AreCut sizes (suc file) sources os h us k

-- ---- what is left of it in the program

pub record IsFinal (t : Tables) (sizes : ℕ → Sizes) (z y : LaidStatement) : Type 0 where
  -- its size before anything is taken out, by its bytes in the program
  pub placed : z.located.placed ≡ true → z.bytes ≡ statement_size z.located.home.executable (expression_value t z.located) z.located.kind y.bytes
  pub unplaced : z.located.placed ≡ false → z.bytes ≡ 0
  pub call : source_text z.located.home ≡ true → is_call_statement z.located.kind ≡ true → y.bytes ≡ sizes z.located.section z.offset

pub record IsFinalFile (sizes : ℕ → Sizes) (ss : List Statement) (o : Object) (is : IsKept ss o) (ys : List LaidStatement) : Type 0 where
  pub final : LaidStatement → LaidStatement
  pub laid : ys ≡ map final is.laid
  pub stays : (z : LaidStatement) → (final z).located ≡ z.located
  pub finals : AllByRecursion (λ z. IsFinal (tables ss) sizes z (final z)) is.laid

abbrev pub AreFinal : (ℕ → ℕ → Sizes) → ℕ → (sources : List (List Statement)) (os : List Object) → AreKept sources os → (ws : List Object) → shrunk.AreObjectsOf sources ws → Type 0
AreFinal sizes file [] [] h ws k = ⊤
AreFinal sizes file [] (o ∷ os) h ws k = absurd h
AreFinal sizes file (ss ∷ sources) [] h ws k = absurd h
AreFinal sizes file (ss ∷ sources) (o ∷ os) (is, h) [] k = absurd k
AreFinal sizes file (ss ∷ sources) (o ∷ os) (is, h) (w ∷ ws) (ks, k) = IsFinalFile (sizes file) ss o is ks.laid × AreFinal sizes (suc file) sources os h ws k

-- ---- sizes

size_call : (x : Bool) (v : Expression → Value) (kind : StatementKind) (bytes : ℕ) → is_call_statement kind ≡ true → statement_size x v kind bytes ≡ 8
size_call x v (Instruction m os) bytes e = ap (λ b. if b then 8 else bytes) e
size_call x v (Label name) bytes e = absurd (cc)
size_call x v (Numbered number) bytes e = absurd (cc)
size_call x v (Directs d) bytes e = absurd (cc)

size_other : (x : Bool) (v : Expression → Value) (kind : StatementKind) (bytes : ℕ) → is_call_statement kind ≡ false → statement_size x v kind bytes ≡ size_before x v kind bytes
size_other x v (Instruction m os) bytes e = ap (λ b. if b then 8 else bytes) e
size_other x v (Label name) bytes e = refl
size_other x v (Numbered number) bytes e = refl
size_other x v (Directs d) bytes e = refl

before_call : (x : Bool) (v : Expression → Value) (kind : StatementKind) (bytes : ℕ) → is_call_statement kind ≡ true → size_before x v kind bytes ≡ bytes
before_call x v (Instruction m os) bytes e = refl
before_call x v (Label name) bytes e = absurd (cc)
before_call x v (Numbered number) bytes e = absurd (cc)
before_call x v (Directs d) bytes e = absurd (cc)

-- a call has a place
call_placed : (l : Located) → ((m : Mnemonic) (os : List Operand) → l.kind ≡ Instruction m os → l.placed ≡ true) → is_call_statement l.kind ≡ true → l.placed ≡ true
call_placed l h c = go l.kind refl c
  where
    go : (kind : StatementKind) → l.kind ≡ kind → is_call_statement kind ≡ true → l.placed ≡ true
    go (Instruction m os) e c = h m os e
    go (Label name) e c = absurd (cc)
    go (Numbered number) e c = absurd (cc)
    go (Directs d) e c = absurd (cc)

module _ (t : Tables) (sizes : ℕ → Sizes) (sections : List SourceSection) (z y : LaidStatement) (ms : List Move) (stays : y.located ≡ z.located) (k : IsSettled sections z) (eight : IsUncut z)
    (resized : IsResized sizes z y) (count : IsCounted t ms y) where
  abbrev x : Bool
  x = z.located.home.executable

  abbrev v : Expression → Value
  v = expression_value t z.located

  counted_here : z.located.placed ≡ true → y.bytes ≡ size_before x v z.located.kind (bytes_with ms y)
  counted_here = subst (λ l. l.placed ≡ true → y.bytes ≡ size_before l.home.executable (expression_value t l) l.kind (bytes_with ms y)) stays count.placed

  uncounted : z.located.placed ≡ false → y.bytes ≡ 0
  uncounted = subst (λ l. l.placed ≡ false → y.bytes ≡ 0) stays count.unplaced

  pub final_laid : IsFinal t sizes z (laid_with ms y)
  final_laid = record {
    placed = λ e. placed_by (is_call_statement z.located.kind) refl e;
    unplaced = λ e. unplaced_by (is_call_statement z.located.kind) refl e;
    call = λ text c. sym (counted_here (call_placed z.located k.instructed c) ∙ before_call x v z.located.kind (bytes_with ms y) c) ∙ resized.0 text c;
  }
    where
      placed_by : (b : Bool) → is_call_statement z.located.kind ≡ b → z.located.placed ≡ true → z.bytes ≡ statement_size x v z.located.kind (bytes_with ms y)
      placed_by true c e = eight c ∙ sym (size_call x v z.located.kind (bytes_with ms y) c)
      placed_by false c e = sym (resized.1 c) ∙ counted_here e ∙ sym (size_other x v z.located.kind (bytes_with ms y) c)

      unplaced_by : (b : Bool) → is_call_statement z.located.kind ≡ b → z.located.placed ≡ false → z.bytes ≡ 0
      unplaced_by true c e = let f : true ≡ false = sym (call_placed z.located k.instructed c) ∙ e in absurd (cc)
      unplaced_by false c e = sym (resized.1 c) ∙ uncounted e

-- ---- a file

map_map : (f g : LaidStatement → LaidStatement) (zs : List LaidStatement) → map f (map g zs) ≡ map (λ z. f (g z)) zs
map_map f g [] = refl
map_map f g (z ∷ zs) = ap (λ l. f (g z) ∷ l) (map_map f g zs)

final_file : (sizes : ℕ → Sizes) (ss : List Statement) (o : Object) (is : IsKept ss o) (u : Object) (js : IsAssembled ss u) (c : IsCut sizes ss o is u js) (f : ℕ → ℕ)
    (counts : AllByRecursion (λ z. IsCounted (tables ss) (moves_in f u z.located.section) z) js.laid) (ys : List LaidStatement)
    → ys ≡ map (λ z. laid_with (moves_in f u z.located.section) z) js.laid → IsFinalFile sizes ss o is ys
final_file sizes ss o is u js c f counts ys e = record {
  final = λ z. G (c.mv z);
  laid = e ∙ ap (map G) c.laid ∙ map_map G c.mv is.laid;
  stays = c.stays;
  finals = go is.laid (settled_left ss is.laid is.dropped is.good is.located) (all_uncut ss o is) c.resized (subst (λ l. AllByRecursion (λ z. IsCounted (tables ss) (moves_in f u z.located.section) z) l) c.laid counts);
}
  where
    G : LaidStatement → LaidStatement
    G z = laid_with (moves_in f u z.located.section) z

    go : (zs : List LaidStatement) → AllByRecursion (IsSettled (source_sections is.dropped ss)) zs → AllByRecursion IsUncut zs → AllByRecursion (λ z. IsResized sizes z (c.mv z)) zs
        → AllByRecursion (λ z. IsCounted (tables ss) (moves_in f u z.located.section) z) (map c.mv zs) → AllByRecursion (λ z. IsFinal (tables ss) sizes z (G (c.mv z))) zs
    go [] a b r d = tt
    go (z ∷ zs) (a, as') (b, bs) (r, rs) (d, ds) = (
      final_laid (tables ss) sizes (source_sections is.dropped ss) z (c.mv z) (moves_in f u (c.mv z).located.section) (c.stays z) a b r d,
      go zs as' bs rs ds,
    )

pub all_final : (starts : Starts) (sizes : ℕ → ℕ → Sizes) (file : ℕ) (sources : List (List Statement)) (os : List Object) (h : AreKept sources os) (us : List Object) (k : AreAssembled sources us)
    → AreCut sizes file sources os h us k → (b : AllByRecursion (Begun starts) (inputs_of goes_to_text file us))
    → AreFinal sizes file sources os h (shrunk_objects starts file us) (objects_shrink starts file sources us k b)
unfolding objects_shrink
all_final starts sizes file [] [] h [] k c b = tt
all_final starts sizes file [] [] h (u ∷ us) k c b = absurd k
all_final starts sizes file [] (o ∷ os) h us k c b = absurd h
all_final starts sizes file (ss ∷ sources) [] h us k c b = absurd h
all_final starts sizes file (ss ∷ sources) (o ∷ os) (is, h) [] k c b = absurd k
all_final starts sizes file (ss ∷ sources) (o ∷ os) (is, h) (u ∷ us) (js, k) (c, cs) b =
    let both = each_split (Begun starts) (inputs_from goes_to_text file u 0 u.sections) (inputs_of goes_to_text (suc file) us) b in
    let begun = begun_in starts file u both.0 in (
      final_file (sizes file) ss o is u js c (starts file) (counted ss u js (starts file) begun) (shrunk_is ss u js (starts file) begun).laid (shrunk_laid ss u js (starts file) begun),
      all_final starts sizes (suc file) sources os h us k cs both.1,
    )

-- what is dropped stays so
pub all_masked : (drops : List SectionId) (starts : Starts) (sizes : ℕ → ℕ → Sizes) (file : ℕ) (sources : List (List Statement)) (os : List Object) (h : AreKept sources os) (us : List Object) (k : AreAssembled sources us)
    → AreCut sizes file sources os h us k → AreMasked drops file sources os h → (b : AllByRecursion (Begun starts) (inputs_of goes_to_text file us))
    → shrunk.AreMasked drops file sources (shrunk_objects starts file us) (objects_shrink starts file sources us k b)
unfolding objects_shrink
all_masked drops starts sizes file [] [] h [] k c masks b = tt
all_masked drops starts sizes file [] [] h (u ∷ us) k c masks b = absurd k
all_masked drops starts sizes file [] (o ∷ os) h us k c masks b = absurd h
all_masked drops starts sizes file (ss ∷ sources) [] h us k c masks b = absurd h
all_masked drops starts sizes file (ss ∷ sources) (o ∷ os) (is, h) [] k c masks b = absurd k
all_masked drops starts sizes file (ss ∷ sources) (o ∷ os) (is, h) (u ∷ us) (js, k) (c, cs) (own, masks) b =
    let both = each_split (Begun starts) (inputs_from goes_to_text file u 0 u.sections) (inputs_of goes_to_text (suc file) us) b in
    (shrunk_dropped ss u js (starts file) (begun_in starts file u both.0) ∙ c.dropped ∙ own, all_masked drops starts sizes (suc file) sources os h us k cs masks both.1)
