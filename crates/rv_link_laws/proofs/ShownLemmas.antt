-- What a name means to all files, by the one definition of it.

use Rattle.std.proofs.Common.{◌≡◌, ℕ, Bool, true, false, cond, Option, Some, None, option_map, List, [], ◌∷◌, ◌++◌, is_some, inl, inr, refl, sym, ap, subst, ◌∙◌}
use Rattle.std.specs.Prelude.{◌&&◌, ◌||◌, ◌==◌, not, filter, flat_map, option_and_then, bytes_eq, if◌then◌else◌}
use Rattle.std.specs.List.{AllByRecursion, find}
use Rattle.std.specs.Option.{option_or}
use Rattle.std.proofs.lemmas.Bool.{and_parts, and_from, eqb-true, eq-eqb}
use Rattle.std.proofs.lemmas.List.Folds.{find-append}
use Rattle.std.proofs.lemmas.Slice.Eq.{bytes_eq-Decides}
use Rattle.rv_list_laws.proofs.ElementsLemmas.{same_bytes}
use Rattle.rv_map_laws.specs.Globals.{global_address, is_one_of, AreDistinct, shown, linker_symbols}
use Rattle.rv_map_laws.specs.Map.{Map, Global}
use Rattle.rv_object_laws.specs.Object.{Symbol, Object}
use Rattle.rv_link_laws.specs.Inputs.{Starts}
use Rattle.rv_object_laws.specs.Bindings.{is_shared, is_global, is_weak}
use Rattle.rv_link_laws.specs.Names.{Export, exports_where, names_of, chosen, is_this, is_chosen, chosen_exports, global_names, export_address, globals_of, shown_linker_symbols, unshown_address, outer_address}
use Rattle.rv_link_laws.specs.Lists.{In}
use Rattle.rv_link_laws.proofs.ChosenLemmas.{chosen_held, chosen_named}
use Rattle.rv_link_laws.proofs.HeldLemmas.{IsHeld, shared_held, same_export, held_one, in_filter, named_in}

-- ---- the definitions that names mean

-- one of them is what its name means
pub kept_chosen : (os : List Object) (e : Export) → IsHeld os e → is_chosen os e ≡ true → chosen os e.symbol.name ≡ Some e
kept_chosen os e held is = by (chosen os e.symbol.name) refl is
  where
    by : (f : Option Export) → chosen os e.symbol.name ≡ f → is_this e f ≡ true → f ≡ Some e
    by None found h = absurd (cc)
    by (Some f) found h =
        let same = and_parts (e.file == f.file) (e.index == f.index) h in
        ap Some (sym (same_export os e f held (chosen_held os e.symbol.name f found) (eqb-true e.file f.file same.0) (eqb-true e.index f.index same.1)))

pub chosen_kept : (os : List Object) (e : Export) → chosen os e.symbol.name ≡ Some e → is_chosen os e ≡ true
chosen_kept os e is = ap (is_this e) is ∙ and_from (e.file == e.file) (e.index == e.index) (eq-eqb e.file e.file refl) (eq-eqb e.index e.index refl)

all_chosen : (os : List Object) (es : List Export) → AllByRecursion (IsHeld os) es → AllByRecursion (λ e. chosen os e.symbol.name ≡ Some e) (filter (is_chosen os) es)
all_chosen os [] h = tt
all_chosen os (e ∷ es) h = by (is_chosen os e) refl (all_chosen os es h.1)
  where
    by : (b : Bool) → is_chosen os e ≡ b → AllByRecursion (λ f. chosen os f.symbol.name ≡ Some f) (filter (is_chosen os) es)
        → AllByRecursion (λ f. chosen os f.symbol.name ≡ Some f) (cond b (e ∷ filter (is_chosen os) es) (filter (is_chosen os) es))
    by true is more = (kept_chosen os e h.0 is, more)
    by false is more = more

-- what a name means is one of them
one_chosen : (os : List Object) (name : List ℕ) (e : Export) → chosen os name ≡ Some e → is_one_of (names_of (chosen_exports os)) name ≡ true
one_chosen os name e is =
    let named = chosen_named os name e is in
    let held = chosen_held os name e is in
    subst (λ n. is_one_of (names_of (chosen_exports os)) n ≡ true) named
    (named_in e (chosen_exports os)
    (in_filter (is_chosen os) e (exports_where is_shared os) (chosen_kept os e (ap (chosen os) named ∙ is)) (held_one os is_shared e held held.shared)))

-- ---- their addresses

module _ (starts : Starts) where
  abbrev shown_by : Export → List Global
  shown_by e = shown e.symbol.name (export_address starts e)

  abbrev HasAddress : List ℕ → Option ℕ → Export → Type 0
  HasAddress name address e = e.symbol.name ≡ name → export_address starts e ≡ address

  -- where all definitions of a name have one address
  found_shown : (es : List Export) (name : List ℕ) (address : Option ℕ) → AllByRecursion (HasAddress name address) es
      → global_address (flat_map shown_by es) name ≡ (if is_one_of (names_of es) name then address else None)
  found_shown [] name address h = refl
  found_shown (e ∷ es) name address h = by (export_address starts e) refl (bytes_eq e.symbol.name name) refl (found_shown es name address h.1)
    where
      it : ℕ → Global
      it a = record { name = e.symbol.name; address = a }

      passed : (a : ℕ) (b : Bool) → bytes_eq e.symbol.name name ≡ b
          → global_address (it a ∷ flat_map shown_by es) name ≡ option_map (λ (q : Global). q.address) (cond b (Some (it a)) (find (λ (q : Global). bytes_eq q.name name) (flat_map shown_by es)))
      passed a b g = ap (λ c. option_map (λ (q : Global). q.address) (cond c (Some (it a)) (find (λ (q : Global). bytes_eq q.name name) (flat_map shown_by es)))) g

      none_both : (c : Bool) → address ≡ None → (if c then address else None) ≡ address
      none_both true none = refl
      none_both false none = sym none

      by : (a : Option ℕ) → export_address starts e ≡ a → (b : Bool) → bytes_eq e.symbol.name name ≡ b
          → global_address (flat_map shown_by es) name ≡ (if is_one_of (names_of es) name then address else None)
          → global_address (shown e.symbol.name a ++ flat_map shown_by es) name ≡ (if b || is_one_of (names_of es) name then address else None)
      by (Some a) f true g rest = passed a true g ∙ sym f ∙ h.0 (same_bytes e.symbol.name name g)
      by (Some a) f false g rest = passed a false g ∙ rest
      by None f true g rest = rest ∙ none_both (is_one_of (names_of es) name) (sym (h.0 (same_bytes e.symbol.name name g)) ∙ f)
      by None f false g rest = rest

address-append : (xs ys : List Global) (name : List ℕ) → global_address (xs ++ ys) name ≡ option_or (global_address xs name) (global_address ys name)
address-append xs ys name = ap (option_map (λ (q : Global). q.address)) (find-append (λ (q : Global). bytes_eq q.name name) xs ys) ∙ by (find (λ (q : Global). bytes_eq q.name name) xs)
  where
    by : (f : Option Global) → option_map (λ (q : Global). q.address) (option_or f (find (λ (q : Global). bytes_eq q.name name) ys)) ≡ option_or (option_map (λ (q : Global). q.address) f) (global_address ys name)
    by None = refl
    by (Some q) = refl

-- the linker's names that none of these takes
module _ (taken : List ℕ → Bool) (name : List ℕ) where
  abbrev is_free : Global → Bool
  is_free q = not (taken q.name)

  free_address : (ls : List Global) → global_address (filter is_free ls) name ≡ (if taken name then None else global_address ls name)
  free_address [] = by (taken name)
    where
      by : (b : Bool) → ◌≡◌ {A = Option ℕ} None (if b then None else None)
      by true = refl
      by false = refl
  free_address (l ∷ ls) = by (taken l.name) refl (bytes_eq l.name name) refl (taken name) refl (free_address ls)
    where
      by : (a : Bool) → taken l.name ≡ a → (b : Bool) → bytes_eq l.name name ≡ b → (c : Bool) → taken name ≡ c
          → global_address (filter is_free ls) name ≡ (if c then None else global_address ls name)
          → global_address (cond (not a) (l ∷ filter is_free ls) (filter is_free ls)) name
          ≡ (if c then None else option_map (λ (q : Global). q.address) (cond b (Some l) (find (λ (q : Global). bytes_eq q.name name) ls)))
      by true e b f true g ih = ih
      by true e true f false g ih = absurd (let t : true ≡ false = sym e ∙ ap taken (same_bytes l.name name f) ∙ g in cc)
      by true e false f false g ih = ih
      by false e true f true g ih = absurd (let t : false ≡ true = sym e ∙ ap taken (same_bytes l.name name f) ∙ g in cc)
      by false e true f false g ih = ap (λ c. option_map (λ (q : Global). q.address) (cond c (Some l) (find (λ (q : Global). bytes_eq q.name name) (filter is_free ls)))) f
      by false e false f c g ih = ap (λ c. option_map (λ (q : Global). q.address) (cond c (Some l) (find (λ (q : Global). bytes_eq q.name name) (filter is_free ls)))) f ∙ ih

-- what a name means to all files
abbrev pub meaning : Starts → Map → List ℕ → Option Export → Option ℕ
meaning starts m name (Some e) = export_address starts e
meaning starts m name None = global_address (linker_symbols m) name

or_none : (f : Option ℕ) → option_or f None ≡ f
or_none None = refl
or_none (Some a) = refl

module _ (starts : Starts) (os : List Object) (m : Map) where
  abbrev pub every : List Global
  every = globals_of starts os ++ shown_linker_symbols os m

  global_meaning : (name : List ℕ) → global_address (globals_of starts os) name ≡ option_and_then (export_address starts) (chosen os name)
  global_meaning name =
      found_shown starts (chosen_exports os) name (option_and_then (export_address starts) (chosen os name)) (agree (chosen_exports os) (all_chosen os (exports_where is_shared os) (shared_held os)))
      ∙ by (chosen os name) refl
    where
      agree : (es : List Export) → AllByRecursion (λ e. chosen os e.symbol.name ≡ Some e) es → AllByRecursion (HasAddress starts name (option_and_then (export_address starts) (chosen os name))) es
      agree [] h = tt
      agree (e ∷ es) h = ((λ same. sym (ap (option_and_then (export_address starts)) (ap (chosen os) (sym same) ∙ h.0))), agree es h.1)

      by : (f : Option Export) → chosen os name ≡ f → (if is_one_of (names_of (chosen_exports os)) name then option_and_then (export_address starts) f else None) ≡ option_and_then (export_address starts) f
      by None is = go (is_one_of (names_of (chosen_exports os)) name)
        where
          go : (b : Bool) → ◌≡◌ {A = Option ℕ} (if b then None else None) None
          go true = refl
          go false = refl
      by (Some e) is = ap (λ b. if b then export_address starts e else None) (one_chosen os name e is)

  pub means : (name : List ℕ) → global_address every name ≡ meaning starts m name (chosen os name)
  means name =
      address-append (globals_of starts os) (shown_linker_symbols os m) name
      ∙ ap (λ f. option_or f (global_address (shown_linker_symbols os m) name)) (global_meaning name)
      ∙ ap (option_or (option_and_then (export_address starts) (chosen os name))) (free_address (λ n. is_some (chosen os n)) name (linker_symbols m))
      ∙ by (chosen os name)
    where
      by : (f : Option Export) → option_or (option_and_then (export_address starts) f) (if is_some f then None else global_address (linker_symbols m) name) ≡ meaning starts m name f
      by None = refl
      by (Some e) = or_none (export_address starts e)

  -- ---- what a symbol means that its own object doesn't surely define

  pub outer_some : (s : Symbol) (e : Export) → chosen os s.name ≡ Some e → outer_address os every s ≡ export_address starts e
  outer_some s e is =
      ap (λ f. option_or f (unshown_address os s)) (means s.name ∙ ap (meaning starts m s.name) is)
      ∙ ap (λ f. option_or (export_address starts e) (if is_weak s.binding && not (is_some f) then Some 0 else None)) is
      ∙ ap (λ b. option_or (export_address starts e) (if b then Some 0 else None)) (never (is_weak s.binding))
      ∙ or_none (export_address starts e)
    where
      never : (b : Bool) → (b && false) ≡ false
      never true = refl
      never false = refl

  pub outer_none : (s : Symbol) → chosen os s.name ≡ None → outer_address os every s ≡ option_or (global_address (linker_symbols m) s.name) (if is_weak s.binding then Some 0 else None)
  outer_none s is =
      ap (λ f. option_or f (unshown_address os s)) (means s.name ∙ ap (meaning starts m s.name) is)
      ∙ ap (λ f. option_or (global_address (linker_symbols m) s.name) (if is_weak s.binding && not (is_some f) then Some 0 else None)) is
      ∙ ap (λ b. option_or (global_address (linker_symbols m) s.name) (if b then Some 0 else None)) (always (is_weak s.binding))
    where
      always : (b : Bool) → (b && true) ≡ b
      always true = refl
      always false = refl

-- ---- a global definition is what its name means

module _ (name : List ℕ) where
  abbrev is_named : Export → Bool
  is_named e = bytes_eq e.symbol.name name

  first_of : (es : List Export) (e : Export) → AreDistinct (names_of es) → e.symbol.name ≡ name → In e es → find is_named es ≡ Some e
  first_of [] e d is h = absurd h
  first_of (f ∷ es) e d is (inl same) =
      ap (λ b. cond b (Some f) (find is_named es)) ((bytes_eq-Decides f.symbol.name name).1 (ap (λ (x : Export). x.symbol.name) same ∙ is)) ∙ ap Some same
  first_of (f ∷ es) e d is (inr h) = by (bytes_eq f.symbol.name name) refl (first_of es e d.1 is h)
    where
      by : (b : Bool) → bytes_eq f.symbol.name name ≡ b → find is_named es ≡ Some e → cond b (Some f) (find is_named es) ≡ Some e
      by true same more =
          let one : is_one_of (names_of es) f.symbol.name ≡ true = ap (is_one_of (names_of es)) (same_bytes f.symbol.name name same ∙ sym is) ∙ named_in e es h in
          absurd (let t : true ≡ false = sym one ∙ d.0 in cc)
      by false same more = more

pub global_chosen : (os : List Object) (e : Export) → AreDistinct (global_names os) → In e (exports_where is_global os) → chosen os e.symbol.name ≡ Some e
global_chosen os e distinct h =
    find-append (is_named e.symbol.name) (exports_where is_global os) (exports_where is_weak os)
    ∙ ap (λ f. option_or f (find (is_named e.symbol.name) (exports_where is_weak os))) (first_of e.symbol.name (exports_where is_global os) e distinct refl h)
