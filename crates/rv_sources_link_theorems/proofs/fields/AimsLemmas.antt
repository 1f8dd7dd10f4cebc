-- Where a statement of a file stands in the line of text.

use Rattle.std.proofs.Common.{◌≡◌, ℕ, ◌+◌, Bool, true, false, List, [], ◌∷◌, ◌++◌, refl, sym, ap, ◌∙◌, subst, arith, Option, Some, None, option_map}
use Rattle.std.proofs.lemmas.Bool.{eqb-true, eq-eqb}
use Rattle.std.specs.Prelude.{◌&&◌, ◌||◌, ◌==◌, if◌then◌else◌}
use Rattle.std.specs.List.{AllByRecursion, find, list_any}
use Rattle.rv_list_laws.proofs.FindLemmas.{each_find, find_join, find_front}
use Rattle.rv_list_laws.proofs.OptionsLemmas.{option_map_none}
use Rattle.rv_unit_laws.specs.Sections.{goes_to_text as source_text}
use Rattle.rv_source_laws.specs.Located.{Located, has_row}
use Rattle.rv_source_laws.specs.Program.{Program}
use Rattle.rv_source_laws.specs.Fits as source
use Rattle.rv_source_laws.specs.Shortened.{Placed}
use Rattle.rv_object_laws.specs.Object.{size_of}
use Rattle.rv_link_laws.specs.CallSites.{start_padding, base_in}
use Rattle.rv_link_laws.specs.Inputs.{Starts, InputSection}
use Rattle.rv_link_laws.specs.Shortened.{Sizes}
use Rattle.rv_assemble_laws.specs.LaidStatements.{LaidStatement, laid_in}
use Rattle.rv_assemble_laws.specs.Symbols.{laid_at}
use Rattle.rv_sources_link_theorems.proofs.moves.PiecesLemmas.{IsPiece, ArePieces, own, placed_at, line_of, line_at, lines}
use Rattle.rv_sources_link_theorems.proofs.statements.SettledLemmas.{IsLaidIn}
pub use Rattle.rv_sources_link_theorems.proofs.sections.StoodLemmas.{IsFirst}

-- ---- a statement of an ordinal, in a section

abbrev pub passes : ℕ → LaidStatement → Bool
passes n z = (z.located.ordinal == n) && has_row z.located

module _ (S : List LaidStatement) (n j : ℕ) where
  one : (z y : LaidStatement) → laid_at S n ≡ Some z → IsFirst S y → y.located.ordinal ≡ n → y ≡ z
  one z y e h f =
      let both : Some y ≡ Some z = sym h ∙ ap (laid_at S) f ∙ e in cc

  none_after : (z : LaidStatement) → laid_at S n ≡ Some z → ((z.located.section == j) && has_row z.located) ≡ false → (ys : List LaidStatement) → AllByRecursion (IsFirst S) ys → find (passes n) (laid_in j ys) ≡ None
  none_after z e lacks [] h = refl
  none_after z e lacks (y ∷ ys) (h, hs) = go (y.located.section == j) refl (none_after z e lacks ys hs)
    where
      rest : Option LaidStatement
      rest = find (passes n) (laid_in j ys)

      go : (b : Bool) → (y.located.section == j) ≡ b → rest ≡ None → find (passes n) (if b then y ∷ laid_in j ys else laid_in j ys) ≡ None
      go false f ih = ih
      go true f ih = ap (λ b. if b then Some y else rest) (never (y.located.ordinal == n) refl) ∙ ih
        where
          never : (c : Bool) → (y.located.ordinal == n) ≡ c → (c && has_row y.located) ≡ false
          never false g = refl
          never true g =
              let same : y ≡ z = one z y e h (eqb-true y.located.ordinal n g) in
              ap (λ b. b && has_row y.located) (sym f) ∙ ap (λ (q : LaidStatement). (q.located.section == j) && has_row q.located) same ∙ lacks

  -- the one of the ordinal, where it is in the section and has a row
  abbrev answer : Option LaidStatement → Option LaidStatement
  answer None = None
  answer (Some z) = if (z.located.section == j) && has_row z.located then Some z else None

  found_in : (ys : List LaidStatement) → AllByRecursion (IsFirst S) ys → find (passes n) (laid_in j ys) ≡ answer (laid_at ys n)
  found_in [] h = refl
  found_in (y ∷ ys) (h, hs) = go (y.located.ordinal == n) refl (found_in ys hs)
    where
      rest : Option LaidStatement
      rest = find (passes n) (laid_in j ys)

      skip : (b : Bool) → rest ≡ answer (laid_at ys n) → find (passes n) (if b then y ∷ laid_in j ys else laid_in j ys) ≡ (if b then (if passes n y then Some y else rest) else rest)
      skip true e = refl
      skip false e = refl

      either : (b : Bool) → (if b then rest else rest) ≡ rest
      either true = refl
      either false = refl

      go : (c : Bool) → (y.located.ordinal == n) ≡ c → rest ≡ answer (laid_at ys n)
          → find (passes n) (if y.located.section == j then y ∷ laid_in j ys else laid_in j ys) ≡ answer (if c then Some y else laid_at ys n)
      go false f ih =
          skip (y.located.section == j) ih ∙ ap (λ c. if y.located.section == j then (if c && has_row y.located then Some y else rest) else rest) f ∙ either (y.located.section == j) ∙ ih
      go true f ih =
          skip (y.located.section == j) ih ∙ ap (λ c. if y.located.section == j then (if c && has_row y.located then Some y else rest) else rest) f
          ∙ by (y.located.section == j) (has_row y.located) refl refl
        where
          there : laid_at S n ≡ Some y
          there = ap (laid_at S) (sym (eqb-true y.located.ordinal n f)) ∙ h

          by : (a r : Bool) → (y.located.section == j) ≡ a → has_row y.located ≡ r → (if a then (if r then Some y else rest) else rest) ≡ (if a && r then Some y else None)
          by true true x w = refl
          by true false x w = none_after y there (ap (λ a. a && has_row y.located) x ∙ w) ys hs
          by false r x w = none_after y there (ap (λ a. a && has_row y.located) x) ys hs

-- ---- in the line

module _ (p : Program) (starts : Starts) (at : ℕ → List LaidStatement) (sizes : ℕ → ℕ → Sizes) (f n : ℕ) where
  abbrev pub test : Placed → Bool
  test x = (x.site.located.file == f) && (x.site.located.ordinal == n)

  -- what a section has of it
  abbrev look : InputSection → Option LaidStatement
  look i = if i.file == f then find (passes n) (own p starts at sizes i) else None

  line_look : (first : ℕ) (i : InputSection) (b : source.InputSection) (h : IsPiece p starts at sizes i b)
      → option_map (λ x. x.offset) (find test (line_at p starts at sizes first i b h)) ≡ option_map (λ z. first + z.offset) (look i)
  line_look first i b h = go (own p starts at sizes i)
    where
      line : List LaidStatement → List Placed
      line zs = line_of p starts at sizes i.file h.t h.tables h.final h.stays first zs

      place : LaidStatement → Placed
      place z = placed_at p starts at sizes i.file h.t h.tables h.final h.stays first z

      off : Placed → ℕ
      off x = x.offset

      go : (zs : List LaidStatement) → option_map off (find test (line zs)) ≡ option_map (λ z. first + z.offset) (if i.file == f then find (passes n) zs else None)
      go [] = by (i.file == f)
        where
          by : (b : Bool) → None ≡ option_map (λ (z : LaidStatement). first + z.offset) (if b then None else None)
          by true = refl
          by false = refl
      go (z ∷ zs) = by (has_row z.located) refl (go zs)
        where
          rest : Option Placed
          rest = find test (line zs)

          in_file : (b c r : Bool) → option_map off rest ≡ option_map (λ z. first + z.offset) (if b then find (passes n) zs else None)
              → option_map off (if b && c then Some (place z) else rest) ≡ option_map (λ z. first + z.offset) (if b then (if c && true then Some z else find (passes n) zs) else None)
          in_file true true r ih = refl
          in_file true false r ih = ih
          in_file false c r ih = ih

          without : (b c : Bool) → option_map off rest ≡ option_map (λ z. first + z.offset) (if b then find (passes n) zs else None)
              → option_map off rest ≡ option_map (λ z. first + z.offset) (if b then (if c && false then Some z else find (passes n) zs) else None)
          without true true ih = ih
          without true false ih = ih
          without false c ih = ih

          by : (r : Bool) → has_row z.located ≡ r → option_map off rest ≡ option_map (λ z. first + z.offset) (if i.file == f then find (passes n) zs else None)
              → option_map off (find test (if r then place z ∷ line zs else line zs))
              ≡ option_map (λ z. first + z.offset) (if i.file == f then (if (z.located.ordinal == n) && has_row z.located then Some z else find (passes n) zs) else None)
          by true e ih =
              ap (λ (l : Located). option_map off (if (i.file == f) && (l.ordinal == n) then Some (place z) else rest)) (h.stays z)
              ∙ in_file (i.file == f) (z.located.ordinal == n) true ih
              ∙ ap (λ r. option_map (λ z. first + z.offset) (if i.file == f then (if (z.located.ordinal == n) && r then Some z else find (passes n) zs) else None)) (sym e)
          by false e ih =
              without (i.file == f) (z.located.ordinal == n) ih
              ∙ ap (λ r. option_map (λ z. first + z.offset) (if i.file == f then (if (z.located.ordinal == n) && r then Some z else find (passes n) zs) else None)) (sym e)

  -- nowhere
  none_line : (off : ℕ) (is : List InputSection) (bs : List source.InputSection) (h : ArePieces p starts at sizes is bs) → AllByRecursion (λ i. look i ≡ None) is → find test (lines p starts at sizes off is bs h) ≡ None
  none_line off [] [] h q = refl
  none_line off [] (b ∷ bs) h q = absurd h
  none_line off (i ∷ is) [] h q = absurd h
  none_line off (i ∷ is) (b ∷ bs) (h, hs) (q, qs) =
      let first = off + start_padding i.section in
      find_join test (line_at p starts at sizes first i b h) (lines p starts at sizes (first + size_of i.section.contents) is bs hs)
      (option_map_none (λ x. x.offset) (find test (line_at p starts at sizes first i b h)) (line_look first i b h ∙ ap (option_map (λ z. first + z.offset)) q))
      ∙ none_line (first + size_of i.section.contents) is bs hs qs

  -- or in one section
  abbrev is_at : ℕ → InputSection → Bool
  is_at j i = (i.file == f) && (i.index == j)

  some_line : (z : LaidStatement) (off : ℕ) (is : List InputSection) (bs : List source.InputSection) (h : ArePieces p starts at sizes is bs)
      → AllByRecursion (λ i. look i ≡ (if is_at z.located.section i then Some z else None)) is → list_any (is_at z.located.section) is ≡ true
      → option_map (λ x. x.offset) (find test (lines p starts at sizes off is bs h)) ≡ Some (off + base_in is f z.located.section + z.offset)
  some_line z off [] [] h q some = absurd (cc)
  some_line z off [] (b ∷ bs) h q some = absurd h
  some_line z off (i ∷ is) [] h q some = absurd h
  some_line z off (i ∷ is) (b ∷ bs) (h, hs) (q, qs) some =
      go (is_at z.located.section i) refl q some (λ there. some_line z (off + start_padding i.section + size_of i.section.contents) is bs hs qs there)
    where
      first : ℕ
      first = off + start_padding i.section

      x : ℕ
      x = start_padding i.section

      y : ℕ
      y = size_of i.section.contents

      own_line : List Placed
      own_line = line_at p starts at sizes first i b h

      more : List Placed
      more = lines p starts at sizes (first + size_of i.section.contents) is bs hs

      here : (o : Option Placed) → find test own_line ≡ o → option_map (λ x. x.offset) o ≡ Some (first + z.offset) → option_map (λ x. x.offset) (find test (own_line ++ more)) ≡ Some (first + z.offset)
      here None e g = absurd (cc)
      here (Some r) e g = ap (option_map (λ x. x.offset)) (find_front test own_line more r e) ∙ g

      go : (c : Bool) → is_at z.located.section i ≡ c → look i ≡ (if c then Some z else None) → (c || list_any (is_at z.located.section) is) ≡ true
          → (list_any (is_at z.located.section) is ≡ true → option_map (λ x. x.offset) (find test more) ≡ Some (off + x + y + base_in is f z.located.section + z.offset))
          → option_map (λ x. x.offset) (find test (own_line ++ more)) ≡ Some (off + base_in (i ∷ is) f z.located.section + z.offset)
      go true e g some next =
          here (find test own_line) refl (line_look first i b h ∙ ap (option_map (λ z. first + z.offset)) g)
          ∙ ap Some ((let d : off + x + z.offset ≡ off + (x + 0) + z.offset = omega arith in d)
          ∙ ap (λ c. off + (x + (if c then 0 else y + base_in is f z.located.section)) + z.offset) (sym e))
      go false e g some next =
          let w = base_in is f z.located.section in
          ap (option_map (λ x. x.offset)) (find_join test own_line more (option_map_none (λ x. x.offset) (find test own_line) (line_look first i b h ∙ ap (option_map (λ z. first + z.offset)) g)))
          ∙ next some
          ∙ ap Some ((let d : off + x + y + w + z.offset ≡ off + (x + (y + w)) + z.offset = omega arith in d)
          ∙ ap (λ c. off + (x + (if c then 0 else y + w)) + z.offset) (sym e))

  -- ---- by the statement of the ordinal

  module _ (unique : AllByRecursion (IsFirst (at f)) (at f)) where
    look_is : (i : InputSection) → (i.file ≡ f → look i ≡ find (passes n) (laid_in i.index (at f)))
    look_is i e = ap (λ b. if b then find (passes n) (own p starts at sizes i) else None) (eq-eqb i.file f e) ∙ ap (λ k. find (passes n) (laid_in i.index (at k))) e

    -- where it stands in text
    looks_some : (z : LaidStatement) → laid_at (at f) n ≡ Some z → has_row z.located ≡ true → (i : InputSection) → look i ≡ (if is_at z.located.section i then Some z else None)
    looks_some z e row i = go (i.file == f) refl
      where
        turned : (a b : ℕ) → (a == b) ≡ (b == a)
        turned a b = by (a == b) refl
          where
            by : (c : Bool) → (a == b) ≡ c → c ≡ (b == a)
            by true g = sym (eq-eqb b a (sym (eqb-true a b g)))
            by false g = sym (not_same (b == a) refl)
              where
                not_same : (d : Bool) → (b == a) ≡ d → d ≡ false
                not_same false k = refl
                not_same true k = let q : true ≡ false = sym (eq-eqb a b (sym (eqb-true b a k))) ∙ g in absurd (cc)

        go : (c : Bool) → (i.file == f) ≡ c → look i ≡ (if c && (i.index == z.located.section) then Some z else None)
        go false g = ap (λ b. if b then find (passes n) (own p starts at sizes i) else None) g
        go true g =
            look_is i (eqb-true i.file f g) ∙ found_in (at f) n i.index (at f) unique ∙ ap (answer (at f) n i.index) e
            ∙ ap (λ r. if (z.located.section == i.index) && r then Some z else None) row
            ∙ ap (λ c. if c then Some z else None) (last (z.located.section == i.index) ∙ turned z.located.section i.index)
          where
            last : (b : Bool) → (b && true) ≡ b
            last true = refl
            last false = refl

    all_some : (z : LaidStatement) → laid_at (at f) n ≡ Some z → has_row z.located ≡ true → (is : List InputSection) → AllByRecursion (λ i. look i ≡ (if is_at z.located.section i then Some z else None)) is
    all_some z e row [] = tt
    all_some z e row (i ∷ is) = (looks_some z e row i, all_some z e row is)

    -- where it doesn't
    looks_none : ((z : LaidStatement) → laid_at (at f) n ≡ Some z → source_text z.located.home ≡ false) → (i : InputSection) (b : source.InputSection) → IsPiece p starts at sizes i b → look i ≡ None
    looks_none aside i b h = go (i.file == f) refl
      where
        go : (c : Bool) → (i.file == f) ≡ c → look i ≡ None
        go false g = ap (λ b. if b then find (passes n) (own p starts at sizes i) else None) g
        go true g = by (find (passes n) (laid_in i.index (at f))) refl
          where
            file : i.file ≡ f
            file = eqb-true i.file f g

            by : (o : Option LaidStatement) → find (passes n) (laid_in i.index (at f)) ≡ o → look i ≡ None
            by None q = look_is i file ∙ q
            by (Some z) q =
                let inside : IsLaidIn i.index h.s z =
                each_find (λ z. IsLaidIn i.index h.s z) (passes n) (laid_in i.index (at f)) (subst (λ k. AllByRecursion (λ z. IsLaidIn i.index h.s z) (laid_in i.index (at k))) file h.inside) z q in
                let text : source_text z.located.home ≡ true = ap source_text inside.home ∙ h.text in
                let is_z : answer (at f) n i.index (laid_at (at f) n) ≡ Some z = sym (found_in (at f) n i.index (at f) unique) ∙ q in
                let e : true ≡ false = sym text ∙ aside z (of_answer (laid_at (at f) n) z is_z) in absurd (cc)
              where
                of_answer : (o : Option LaidStatement) (z : LaidStatement) → answer (at f) n i.index o ≡ Some z → o ≡ Some z
                of_answer None z e = absurd (cc)
                of_answer (Some y) z e = pick ((y.located.section == i.index) && has_row y.located) e
                  where
                    pick : (b : Bool) → (if b then Some y else None) ≡ Some z → Some y ≡ Some z
                    pick true e = e
                    pick false e = absurd (cc)

    all_none : ((z : LaidStatement) → laid_at (at f) n ≡ Some z → source_text z.located.home ≡ false) → (is : List InputSection) (bs : List source.InputSection) → ArePieces p starts at sizes is bs → AllByRecursion (λ i. look i ≡ None) is
    all_none aside [] bs h = tt
    all_none aside (i ∷ is) [] h = absurd h
    all_none aside (i ∷ is) (b ∷ bs) (h, hs) = (looks_none aside i b h, all_none aside is bs hs)

    -- ---- the offset of a statement

    pub offset_some : (z : LaidStatement) → laid_at (at f) n ≡ Some z → has_row z.located ≡ true → (is : List InputSection) (bs : List source.InputSection) (h : ArePieces p starts at sizes is bs)
        → list_any (is_at z.located.section) is ≡ true → option_map (λ x. x.offset) (find test (lines p starts at sizes 0 is bs h)) ≡ Some (base_in is f z.located.section + z.offset)
    offset_some z e row is bs h some =
        some_line z 0 is bs h (all_some z e row is) some ∙ ap Some (let w = base_in is f z.located.section in let d : 0 + w + z.offset ≡ w + z.offset = omega arith in d)

    pub offset_none : ((z : LaidStatement) → laid_at (at f) n ≡ Some z → source_text z.located.home ≡ false) → (is : List InputSection) (bs : List source.InputSection) (h : ArePieces p starts at sizes is bs)
        → option_map (λ x. x.offset) (find test (lines p starts at sizes 0 is bs h)) ≡ None
    offset_none aside is bs h = ap (option_map (λ x. x.offset)) (none_line 0 is bs h (all_none aside is bs h))
