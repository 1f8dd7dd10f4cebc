-- The walk along the sites of all objects, one after another, gives the objects of the definition.

use Rattle.std.proofs.Common.{◌≡◌, ℕ, zero, suc, ◌+◌, Bool, true, false, cond, List, [], ◌∷◌, ◌++◌, length, map, take, drop, refl, sym, ap, subst, ◌∙◌, arith}
use Rattle.std.specs.List.{slice_get}
use Rattle.std.proofs.lemmas.List.{drop-drop}
use Rattle.rv_list_laws.proofs.MapLemmas.{map_same}
use Rattle.rv_size_laws.specs.declared.site.Site.{Site}
use Rattle.rv_size_laws.specs.Calls.{IsText}
use Rattle.rv_object_laws.specs.declared.symbol.Definition.{Definition}
use Rattle.rv_object_laws.specs.declared.symbol.Definition.TheVariants as definitions
use Rattle.rv_object_laws.specs.Object.{Section, Object, size_of, stored}
use Rattle.rv_link_laws.specs.Moves.{Move, new_offset}
use Rattle.rv_link_laws.specs.Inputs.{InputSection, goes_to_text, inputs_from, inputs_of}
use Rattle.rv_link_laws.specs.CallSites.{sites_from, sites_of}
use Rattle.rv_link_laws.specs.Shortened.{Sizes, sizes_by, cuts, cuts_at, cuts_in, shortened_section, shortened_text, shortened_sections, shortened_definition, shortened_symbol, shortened_row, shortened_object, shortened_from}
use Rattle.rv_cut_laws.specs.Cutting.{AreCuts, AllCut, cut_section, cut_sections, moves_at, cut_definition, cut_symbol, cut_row, cut_object}
use Rattle.rv_cut_laws.specs.Walk.{own_moves, passed, passed_at, object_moves, passed_all, walked, AreWalked}
use Rattle.rv_cut_laws.proofs.ShortLemmas.{nothing_cut}
use Rattle.rv_cut_laws.proofs.SectionsLemmas.{cuts_elsewhere, same_text}
use Rattle.rv_cut_laws.proofs.LineLemmas.{AreSound, AllSound, Stands, Step, next_index, next_file, text_step}

-- ---- sections of other regions

pub none_cut : (s : Section) → AreCuts s []
none_cut s = record { order = refl; calls = λ m j. elim j [ ]; clear = λ r i m j. elim j [ ] }

pub other_step : (os : List Object) (kept : List ℕ) (f x at : ℕ) (s : Section) (is : List InputSection) (ks : List ℕ) → goes_to_text s ≡ false → Stands os kept f x at is ks
    → Step os kept f x s (sites_from os at is) ks is
other_step os kept f x at s is ks other stands = record {
  moves = ap (λ n. own_moves (stored s.contents) (take n (sites_from os at is)) (take n ks)) none ∙ sym (cuts_elsewhere (sizes_by os kept f x) s other);
  allowed = subst (AreCuts s) (sym (cuts_elsewhere (sizes_by os kept f x) s other)) (none_cut s);
  end = at;
  rest = ap (λ n. drop n (sites_from os at is)) none;
  stands = subst (λ (n : ℕ). Stands os kept f (suc x) at is (drop n ks)) (sym none) (next_index os kept f x at is ks stands);
}
  where
    none : passed s (sites_from os at is) ≡ 0
    none = ap (λ b. cond b (passed_at (size_of s.contents) (sites_from os at is)) 0) other

-- ---- the sections of an object

abbrev pub cuts_listed : (ℕ → Sizes) → ℕ → List Section → List (List Move)
cuts_listed sizes x [] = []
cuts_listed sizes x (s ∷ ss) = cuts (sizes x) s ∷ cuts_listed sizes (suc x) ss

pub record Steps (os : List Object) (kept : List ℕ) (f x : ℕ) (ss : List Section) (sites : List Site) (ks : List ℕ) (is : List InputSection) : Type 0 where
  pub moves : object_moves ss sites ks ≡ cuts_listed (sizes_by os kept f) x ss
  pub allowed : AllCut ss (cuts_listed (sizes_by os kept f) x ss)
  pub end : ℕ
  pub rest : drop (passed_all ss sites) sites ≡ sites_from os end is
  pub stands : Stands os kept (suc f) 0 end is (drop (passed_all ss sites) ks)

-- one section, and then the others
joined : (os : List Object) (kept : List ℕ) (f x : ℕ) (s : Section) (ss : List Section) (sites : List Site) (ks : List ℕ) (is tail : List InputSection) (one : Step os kept f x s sites ks is)
    → Steps os kept f (suc x) ss (sites_from os one.end is) (drop (passed s sites) ks) tail
    → Steps os kept f x (s ∷ ss) sites ks tail
joined os kept f x s ss sites ks is tail one others = record {
  moves = ap (λ m. m ∷ object_moves ss (drop (passed s sites) sites) (drop (passed s sites) ks)) one.moves
      ∙ ap (λ l. cuts (sizes_by os kept f x) s ∷ object_moves ss l (drop (passed s sites) ks)) one.rest
      ∙ ap (λ l. cuts (sizes_by os kept f x) s ∷ l) others.moves;
  allowed = (one.allowed, others.allowed);
  end = others.end;
  rest = ap (λ n. drop n sites) count ∙ sym (drop-drop (passed_all ss (sites_from os one.end is)) (passed s sites) sites) ∙ ap (λ l. drop (passed_all ss (sites_from os one.end is)) l) one.rest ∙ others.rest;
  stands = subst (λ (l : List ℕ). Stands os kept (suc f) 0 others.end tail l) (sym (ap (λ n. drop n ks) count ∙ sym (drop-drop (passed_all ss (sites_from os one.end is)) (passed s sites) ks))) others.stands;
}
  where
    count : passed s sites + passed_all ss (drop (passed s sites) sites) ≡ passed s sites + passed_all ss (sites_from os one.end is)
    count = ap (λ l. passed s sites + passed_all ss l) one.rest

pub all_steps : (os : List Object) (kept : List ℕ) (f x at : ℕ) (o : Object) (ss : List Section) (tail : List InputSection) (ks : List ℕ) → AreSound ss
    → Stands os kept f x at (inputs_from goes_to_text f o x ss ++ tail) ks
    → Steps os kept f x ss (sites_from os at (inputs_from goes_to_text f o x ss ++ tail)) ks tail
all_steps os kept f x at o [] tail ks sound stands = record {
  moves = refl;
  allowed = tt;
  end = at;
  rest = refl;
  stands = next_file os kept f x at tail ks stands;
}
all_steps os kept f x at o (s ∷ ss) tail ks sound stands =
    by (goes_to_text s) refl (λ end js. all_steps os kept f (suc x) end o ss tail js sound.1) stands
  where
    is : List InputSection
    is = inputs_from goes_to_text f o (suc x) ss ++ tail

    i : InputSection
    i = record { file = f; object = o; index = x; section = s }

    by : (b : Bool) → goes_to_text s ≡ b
        → ((end : ℕ) (js : List ℕ) → Stands os kept f (suc x) end is js → Steps os kept f (suc x) ss (sites_from os end is) js tail)
        → Stands os kept f x at (cond b (i ∷ inputs_from goes_to_text f o (suc x) ss) (inputs_from goes_to_text f o (suc x) ss) ++ tail) ks
        → Steps os kept f x (s ∷ ss) (sites_from os at (cond b (i ∷ inputs_from goes_to_text f o (suc x) ss) (inputs_from goes_to_text f o (suc x) ss) ++ tail)) ks tail
    by true text others h =
        let one = text_step os kept f x at o s is ks sound.0 text h in
        joined os kept f x s ss (sites_from os at (i ∷ is)) ks is tail one (others one.end (drop (passed s (sites_from os at (i ∷ is))) ks) one.stands)
    by false other others h =
        let one = other_step os kept f x at s is ks other h in
        joined os kept f x s ss (sites_from os at is) ks is tail one (others one.end (drop (passed s (sites_from os at is)) ks) one.stands)

-- ---- an object

same_sections : (sizes : ℕ → Sizes) (x : ℕ) (ss : List Section) → cut_sections (cuts_listed sizes x ss) ss ≡ shortened_sections sizes x ss
same_sections sizes x [] = refl
same_sections sizes x (s ∷ ss) = ap (λ n. n ∷ cut_sections (cuts_listed sizes (suc x) ss) ss) (by (goes_to_text s) refl) ∙ ap (λ l. shortened_section (sizes x) s ∷ l) (same_sections sizes (suc x) ss)
  where
    by : (b : Bool) → goes_to_text s ≡ b → cut_section (cuts (sizes x) s) s ≡ shortened_section (sizes x) s
    by true text = same_text (sizes x) s text ∙ sym (ap (λ b. cond b (shortened_text (sizes x) s) s) text)
    by false other = nothing_cut s (cuts (sizes x) s) (cuts_elsewhere (sizes x) s other) ∙ sym (ap (λ b. cond b (shortened_text (sizes x) s) s) other)

listed_at : (sizes : ℕ → Sizes) (x : ℕ) (ss : List Section) (j : ℕ) → moves_at (cuts_listed sizes x ss) j ≡ cuts_at (sizes (x + j)) (slice_get ss j)
listed_at sizes x [] j = refl
listed_at sizes x (s ∷ ss) zero = ap (λ n. cuts (sizes n) s) (omega arith)
listed_at sizes x (s ∷ ss) (suc j) = listed_at sizes (suc x) ss j ∙ ap (λ n. cuts_at (sizes n) (slice_get ss j)) (omega arith)

cuts_there : (sizes : ℕ → Sizes) (o : Object) (j : ℕ) → moves_at (cuts_listed sizes 0 o.sections) j ≡ cuts_in sizes o j
cuts_there sizes o j = listed_at sizes 0 o.sections j ∙ ap (λ n. cuts_at (sizes n) (slice_get o.sections j)) (omega arith)

same_definition : (sizes : ℕ → Sizes) (o : Object) (d : Definition) → cut_definition (cuts_listed sizes 0 o.sections) d ≡ shortened_definition sizes o d
same_definition sizes o (definitions.InSection section offset) = ap (λ ms. definitions.InSection section (new_offset ms offset)) (cuts_there sizes o section)
same_definition sizes o definitions.Undefined = refl
same_definition sizes o (definitions.Absolute n) = refl
same_definition sizes o (definitions.Skipped n) = refl

pub same_object : (sizes : ℕ → Sizes) (o : Object) → cut_object (cuts_listed sizes 0 o.sections) o ≡ shortened_object sizes o
same_object sizes o =
    ap (λ ss. record { sections = ss; symbols = map (cut_symbol mss) o.symbols; rows = map (λ r. cut_row (moves_at mss r.section) r) o.rows; rvc = o.rvc }) (same_sections sizes 0 o.sections)
    ∙ ap (λ l. record { sections = shortened_sections sizes 0 o.sections; symbols = l; rows = map (λ r. cut_row (moves_at mss r.section) r) o.rows; rvc = o.rvc })
    (map_same (cut_symbol mss) (shortened_symbol sizes o) o.symbols (λ s. ap (λ d. record s { definition = d }) (same_definition sizes o s.definition)))
    ∙ ap (λ l. record { sections = shortened_sections sizes 0 o.sections; symbols = map (shortened_symbol sizes o) o.symbols; rows = l; rvc = o.rvc })
    (map_same (λ r. cut_row (moves_at mss r.section) r) (shortened_row sizes o) o.rows (λ r. ap (λ ms. cut_row ms r) (cuts_there sizes o r.section)))
  where
    mss : List (List Move)
    mss = cuts_listed sizes 0 o.sections

-- ---- all objects

pub record IsWalk (os : List Object) (kept : List ℕ) (f : ℕ) (left : List Object) (sites : List Site) (ks : List ℕ) : Type 0 where
  pub allowed : AreWalked left sites ks
  pub same : walked left sites ks ≡ shortened_from (sizes_by os kept) f left

one_more : (os : List Object) (kept : List ℕ) (f : ℕ) (o : Object) (left : List Object) (sites : List Site) (ks : List ℕ) (tail : List InputSection) (one : Steps os kept f 0 o.sections sites ks tail)
    → IsWalk os kept (suc f) left (sites_from os one.end tail) (drop (passed_all o.sections sites) ks)
    → IsWalk os kept f (o ∷ left) sites ks
one_more os kept f o left sites ks tail one others = record {
  allowed = (subst (AllCut o.sections) (sym one.moves) one.allowed, subst (λ (l : List Site). AreWalked left l (drop (passed_all o.sections sites) ks)) (sym one.rest) others.allowed);
  same = ap (λ mss. cut_object mss o ∷ walked left (drop (passed_all o.sections sites) sites) (drop (passed_all o.sections sites) ks)) one.moves
      ∙ ap (λ n. n ∷ walked left (drop (passed_all o.sections sites) sites) (drop (passed_all o.sections sites) ks)) (same_object (sizes_by os kept f) o)
      ∙ ap (λ l. shortened_object (sizes_by os kept f) o ∷ walked left l (drop (passed_all o.sections sites) ks)) one.rest
      ∙ ap (λ l. shortened_object (sizes_by os kept f) o ∷ l) others.same;
}

all_walked : (os : List Object) (kept : List ℕ) (f at : ℕ) (left : List Object) (ks : List ℕ) → AllSound left → Stands os kept f 0 at (inputs_of goes_to_text f left) ks
    → IsWalk os kept f left (sites_from os at (inputs_of goes_to_text f left)) ks
all_walked os kept f at [] ks sound stands = record { allowed = tt; same = refl }
all_walked os kept f at (o ∷ left) ks sound stands =
    let one = all_steps os kept f 0 at o o.sections (inputs_of goes_to_text (suc f) left) ks sound.0 stands in
    one_more os kept f o left (sites_from os at (inputs_of goes_to_text f (o ∷ left))) ks (inputs_of goes_to_text (suc f) left) one
    (all_walked os kept (suc f) one.end left (drop (passed_all o.sections (sites_from os at (inputs_of goes_to_text f (o ∷ left)))) ks) sound.1 one.stands)

pub walk_is : (os : List Object) (kept : List ℕ) → AllSound os → IsText (sites_of os) → length kept ≡ length (sites_of os) → IsWalk os kept 1 os (sites_of os) kept
walk_is os kept sound text many =
    all_walked os kept 1 0 os kept sound (record {
      base_is = λ g y later. omega arith;
      size_is = λ o low. refl;
      many = many;
      order = text.in_order;
    })
