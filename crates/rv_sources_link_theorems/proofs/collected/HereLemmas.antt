-- Statements that have no rows yet, by their files and ordinals.

use Rattle.std.proofs.Common.{◌≡◌, ℕ, suc, ◌+◌, ◌-◌, ◌≤◌, ◌<◌, Bool, true, false, List, [], ◌∷◌, ◌++◌, map, refl, ap, sym, subst, ◌∙◌, arith, Option, Some, None}
use Rattle.std.proofs.lemmas.List.{map-append}
use Rattle.std.proofs.lemmas.Bool.{eq-eqb, ne_eqb}
use Rattle.std.specs.Prelude.{⊤, ◌&&◌, ◌==◌, option_map, if◌then◌else◌, slice_index_or}
use Rattle.std.specs.List.{AllByRecursion, find}
use Rattle.rv_map_laws.specs.declared.map.SectionId.{SectionId}
use Rattle.rv_statement_laws.specs.Statement.{Statement}
use Rattle.rv_unit_laws.specs.Tables.{Tables, tables, at_start, after}
use Rattle.rv_source_laws.specs.Located.{Located, located_now, located_from, located_of}
use Rattle.rv_source_laws.specs.Program as source
use Rattle.rv_source_laws.specs.Program.{MaybeMapped, Program, tables_in}
use Rattle.rv_source_laws.specs.Shortened.{aim}
use Rattle.rv_source_laws.specs.Collected.{unplaced, home_of, home_at}
use Rattle.rv_object_laws.specs.Object.{Object}
use Rattle.rv_link_laws.specs.Names as objects
use Rattle.rv_assemble_laws.specs.LaidStatements.{LaidStatement}
use Rattle.rv_assemble_laws.specs.Symbols.{laid_at}
use Rattle.rv_assemble_laws.specs.IsObjectOf.{IsObjectOf}
use Rattle.rv_sources_link_theorems.specs.Joins.{AreObjectsOf}
use Rattle.rv_sources_link_theorems.proofs.names.ExportedLemmas.{exported_are}
use Rattle.rv_sources_link_theorems.proofs.names.PairLemmas.{Rise, IsPair, AreMade}
use Rattle.rv_sources_link_theorems.proofs.statements.StatementsLemmas.{renumbered, renumbers}

-- a statement without a row, and that of a laid statement in a file
abbrev pub bare : Located → MaybeMapped
bare l = record { located = l; row = None }

abbrev pub seen : ℕ → LaidStatement → MaybeMapped
seen f z = bare (renumbered f z.located)

-- the section of a laid statement in a file
abbrev pub laid_home : ℕ → LaidStatement → SectionId
laid_home f z = record { file = f; section = suc z.located.section }

-- ---- the statement of a file and an ordinal

abbrev F : ℕ → ℕ → List MaybeMapped → Option MaybeMapped
F f n es = find (λ e. (e.located.file == f) && (e.located.ordinal == n)) es

abbrev all_from : ℕ → List (List Statement) → List MaybeMapped
all_from k sources = map bare (located_of k sources)

other_from : (f k n o : ℕ) (t : Tables) (ss : List Statement) (more : List MaybeMapped) → (k ≡ f → ⊥) → F f n (map bare (located_from k o t ss) ++ more) ≡ F f n more
other_from f k n o t [] more h = refl
other_from f k n o t (s ∷ ss) more h =
    ap (λ b. if b && (o == n) then Some (bare (located_now k o t s)) else F f n (map bare (located_from k (suc o) (after t o s.kind) ss) ++ more)) (ne_eqb k f h)
    ∙ other_from f k n (suc o) (after t o s.kind) ss more h

joined : (f n k : ℕ) (ss : List Statement) (sources : List (List Statement)) → F f n (all_from k (ss ∷ sources)) ≡ F f n (map bare (located_from k 1 (at_start ss) ss) ++ all_from (suc k) sources)
joined f n k ss sources = ap (F f n) (map-append bare (located_from k 1 (at_start ss) ss) (located_of (suc k) sources))

others_of : (f k n : ℕ) (sources : List (List Statement)) → f < k → F f n (all_from k sources) ≡ None
others_of f k n [] lt = refl
others_of f k n (ss ∷ sources) lt =
    joined f n k ss sources ∙ other_from f k n 1 (at_start ss) ss (all_from (suc k) sources) (λ e. omega (arith, lt, e)) ∙ others_of f (suc k) n sources (omega (arith, lt))

abbrev found_home : Option MaybeMapped → Option SectionId
found_home e = option_map (λ e. home_of e.located) e

own_from : (f n : ℕ) (zs : List LaidStatement) (more : List MaybeMapped) → F f n more ≡ None → found_home (F f n (map (seen f) zs ++ more)) ≡ option_map (laid_home f) (laid_at zs n)
own_from f n [] more none = ap found_home none
own_from f n (z ∷ zs) more none =
    ap (λ b. found_home (if b && (z.located.ordinal == n) then Some (seen f z) else F f n (map (seen f) zs ++ more))) (eq-eqb f f refl)
    ∙ go (z.located.ordinal == n) (own_from f n zs more none)
  where
    rest : Option MaybeMapped
    rest = F f n (map (seen f) zs ++ more)

    go : (b : Bool) → found_home rest ≡ option_map (laid_home f) (laid_at zs n)
        → found_home (if b then Some (seen f z) else rest) ≡ option_map (laid_home f) (if b then Some z else laid_at zs n)
    go true h = refl
    go false h = h

-- the statements of a file are its laid statements
pub own_are : (f : ℕ) (ss : List Statement) (o : Object) (is : IsObjectOf ss o) → map bare (located_from f 1 (at_start ss) ss) ≡ map (seen f) is.laid
own_are f ss o is =
    ap (map bare) (renumbers f 1 (at_start ss) ss) ∙ ap (λ l. map bare (map (renumbered f) l)) (sym is.located) ∙ twice is.laid
  where
    twice : (zs : List LaidStatement) → map bare (map (renumbered f) (map (λ s. s.located) zs)) ≡ map (seen f) zs
    twice [] = refl
    twice (z ∷ zs) = ap (λ l. seen f z ∷ l) (twice zs)

-- ---- what is known of a file

pub record IsHere (p : Program) (f : ℕ) (ss : List Statement) (o : Object) (is : IsObjectOf ss o) : Type 0 where
  pub tables_are : tables_in p f ≡ tables ss
  pub found : (n : ℕ) → home_at p.statements (aim f n) ≡ option_map (laid_home f) (laid_at is.laid n)

abbrev pub AreHere : Program → ℕ → (sources : List (List Statement)) (us : List Object) → AreObjectsOf sources us → Type 0
AreHere p f [] [] k = ⊤
AreHere p f [] (o ∷ us) k = absurd k
AreHere p f (ss ∷ sources) [] k = absurd k
AreHere p f (ss ∷ sources) (o ∷ us) (is, k) = IsHere p f ss o is × AreHere p (suc f) sources us k

here_from : (p : Program) (f : ℕ) (sources : List (List Statement)) (us : List Object) (k : AreObjectsOf sources us)
    → ((g n : ℕ) → f ≤ g → F g n p.statements ≡ F g n (all_from f sources))
    → ((i : ℕ) → tables_in p (f + i) ≡ slice_index_or (map tables sources) i (at_start [])) → AreHere p f sources us k
here_from p f [] [] k found t = tt
here_from p f [] (o ∷ us) k found t = absurd k
here_from p f (ss ∷ sources) [] k found t = absurd k
here_from p f (ss ∷ sources) (o ∷ us) (is, k) found t = (
  record {
    tables_are = ap (tables_in p) (let e : f ≡ f + 0 = omega arith in e) ∙ t 0;
    found = λ n.
        ap found_home (found f n (omega arith) ∙ joined f n f ss sources)
        ∙ ap (λ l. found_home (F f n (l ++ all_from (suc f) sources))) (own_are f ss o is)
        ∙ own_from f n is.laid (all_from (suc f) sources) (others_of f (suc f) n sources (omega arith));
  },
  here_from p (suc f) sources us k
      (λ g n le. found g n (omega (arith, le)) ∙ joined g n f ss sources ∙ other_from g f n 1 (at_start ss) ss (all_from (suc f) sources) (λ e. omega (arith, le, e)))
      (λ i. ap (tables_in p) (let e : suc f + i ≡ f + suc i = omega arith in e) ∙ t (suc i)),
)

pub all_here : (sources : List (List Statement)) (os : List Object) (k : AreObjectsOf sources os) → AreHere (unplaced sources) 1 sources os k
all_here sources os k =
    here_from (unplaced sources) 1 sources os k (λ g n le. refl) (λ i. ap (λ j. slice_index_or (map tables sources) j (at_start [])) (let e : 1 + i - 1 ≡ i = omega arith in e))

-- ---- the definitions of all files

pub rises : (k : ℕ) (t : Tables) (ss : List Statement) (laid : List LaidStatement) → map (λ s. s.located) laid ≡ located_from 1 k t ss → Rise k laid
rises k t ss [] e = tt
rises k t [] (s ∷ laid) e = absurd (cc)
rises k t (x ∷ ss) (s ∷ laid) e =
    let now : s.located ≡ located_now 1 k t x = cc in
    let own : s.located.ordinal ≡ k = ap (λ (l : Located). l.ordinal) now in
    let rest : map (λ s. s.located) laid ≡ located_from 1 (suc k) (after t k x.kind) ss = cc in
    (omega (arith, own), subst (λ n. Rise (suc n) laid) (sym own) (rises (suc k) (after t k x.kind) ss laid rest))

module _ (R : source.Export → objects.Export → Type 0) (p : Program) where
  -- the pairs of a file
  abbrev pub PairsOf : Type 0
  PairsOf =
      (f : ℕ) (ss : List Statement) (o : Object) (is : IsObjectOf ss o) → IsHere p f ss o is
      → AllByRecursion (IsPair R (tables ss) is.laid (seen f) f o) is.laid

  pub all_made : PairsOf → (f : ℕ) (sources : List (List Statement)) (us : List Object) (k : AreObjectsOf sources us) → AreHere p f sources us k → AreMade R p f us (all_from f sources)
  all_made pairs f [] [] k a = refl
  all_made pairs f [] (o ∷ us) k a = absurd k
  all_made pairs f (ss ∷ sources) [] k a = absurd k
  all_made pairs f (ss ∷ sources) (o ∷ us) (is, k) (a, as') = (
    map bare (located_from f 1 (at_start ss) ss),
    all_from (suc f) sources,
    map-append bare (located_from f 1 (at_start ss) ss) (located_of (suc f) sources),
    record {
      t = tables ss;
      laid = is.laid;
      seen = seen f;
      tables = a.tables_are;
      own_are = own_are f ss o is;
      located = λ z. refl;
      rise = rises 1 (at_start ss) ss is.laid is.located;
      exported_are = exported_are ss o is;
      pairs = pairs f ss o is a;
    },
    all_made pairs (suc f) sources us k as',
  )
