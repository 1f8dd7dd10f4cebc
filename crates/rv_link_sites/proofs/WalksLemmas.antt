-- One section, and one object, more of the sites, by what stands at an index.

use Rattle.std.proofs.Common.{◌≡◌, ◌≤◌, ◌+◌, ℕ, suc, true, false, Some, List, [], ◌∷◌, ◌++◌, length, drop, sym, ap, ◌∙◌, append-nil, arith}
use Rattle.std.specs.Prelude.{if◌then◌else◌}
use Rattle.std.specs.List.{slice_get}
use Rattle.std.proofs.lemmas.List.{drop_all}
use Rattle.rv_list_laws.proofs.ElementsLemmas.{append_grown}
use Rattle.rv_list_laws.proofs.TakeDropLemmas.{drop_next}
use Rattle.rv_size_laws.specs.declared.site.Site.{Site}
use Rattle.rv_object_laws.specs.Object.{Section, Object}
use Rattle.rv_link_laws.specs.Inputs.{InputSection, goes_to_text}
use Rattle.rv_link_laws.specs.CallSites.{sites_of}
use Rattle.rv_link_sites.specs.Line.{end_from, next, ended, ended_files, section_sites, text_sites, input, object_sites, files_sites}
use Rattle.rv_link_sites.proofs.StepsLemmas.{grows, grows_files}
use Rattle.rv_link_sites.proofs.AlongLemmas.{sites_are}

-- ---- one section by itself

pub next_text : (stop : ℕ) (s : Section) → goes_to_text s ≡ true → end_from stop s ≡ next stop s
next_text stop s e = sym (ap (λ b. if b then end_from stop s else stop) e)

pub next_other : (stop : ℕ) (s : Section) → goes_to_text s ≡ false → stop ≡ next stop s
next_other stop s e = sym (ap (λ b. if b then end_from stop s else stop) e)

pub sites_other : (os : List Object) (stop : ℕ) (i : InputSection) (old : List Site) → goes_to_text i.section ≡ false → old ≡ old ++ section_sites os stop i
sites_other os stop i old e = sym (append-nil old) ∙ sym (ap (λ b. old ++ (if b then text_sites os stop i else [])) e)

pub sites_text : (os : List Object) (stop : ℕ) (i : InputSection) → goes_to_text i.section ≡ true → text_sites os stop i ≡ section_sites os stop i
sites_text os stop i e = sym (ap (λ b. if b then text_sites os stop i else []) e)

-- ---- among others

module _ (stop i : ℕ) (ss : List Section) (s : Section) (at : slice_get ss i ≡ Some s) where
  pub section_low : (limit whole : ℕ) → whole ≤ limit → ended stop (drop i ss) ≡ whole → next stop s ≤ limit
  section_low limit whole low h =
      let e : ended (next stop s) (drop (i + 1) ss) ≡ whole = ap (ended stop) (sym (drop_next ss i s at)) ∙ h in
      let more = grows (next stop s) (drop (i + 1) ss) in
      omega (arith, low, e, more)

  module _ (end : ℕ) (ends : end ≡ next stop s) where
    pub section_ends : (whole : ℕ) → ended stop (drop i ss) ≡ whole → ended end (drop (i + 1) ss) ≡ whole
    section_ends whole h = ap (λ n. ended n (drop (i + 1) ss)) ends ∙ ap (ended stop) (sym (drop_next ss i s at)) ∙ h

    pub section_more : (os : List Object) (file : ℕ) (o : Object) (old new all : List Site) → new ≡ old ++ section_sites os stop (input file o i s)
        → old ++ object_sites os file o i stop (drop i ss) ≡ all → new ++ object_sites os file o (i + 1) end (drop (i + 1) ss) ≡ all
    section_more os file o old new all e h =
        let here : object_sites os file o i stop (s ∷ drop (i + 1) ss) ≡ object_sites os file o i stop (drop i ss) = ap (object_sites os file o i stop) (sym (drop_next ss i s at)) in
        let index : i + 1 ≡ suc i = omega arith in
        append_grown old (section_sites os stop (input file o i s)) (object_sites os file o (i + 1) end (drop (i + 1) ss)) new all e
        (ap (λ n. old ++ (section_sites os stop (input file o i s) ++ object_sites os file o n end (drop (i + 1) ss))) index
        ∙ ap (λ n. old ++ (section_sites os stop (input file o i s) ++ object_sites os file o (suc i) n (drop (i + 1) ss))) ends ∙ ap (λ l. old ++ l) here ∙ h)

module _ (stop i : ℕ) (os : List Object) (o : Object) (at : slice_get os i ≡ Some o) where
  pub object_low : (limit whole : ℕ) → whole ≤ limit → ended_files stop (drop i os) ≡ whole → ended stop o.sections ≤ limit
  object_low limit whole low h =
      let e : ended_files (ended stop o.sections) (drop (i + 1) os) ≡ whole = ap (ended_files stop) (sym (drop_next os i o at)) ∙ h in
      let more = grows_files (ended stop o.sections) (drop (i + 1) os) in
      omega (arith, low, e, more)

  module _ (end : ℕ) (ends : end ≡ ended stop o.sections) where
    pub object_ends : (whole : ℕ) → ended_files stop (drop i os) ≡ whole → ended_files end (drop (i + 1) os) ≡ whole
    object_ends whole h = ap (λ n. ended_files n (drop (i + 1) os)) ends ∙ ap (ended_files stop) (sym (drop_next os i o at)) ∙ h

    pub object_more : (old new all : List Site) → new ≡ old ++ object_sites os (i + 1) o 0 stop o.sections
        → old ++ files_sites os (i + 1) stop (drop i os) ≡ all → new ++ files_sites os (i + 1 + 1) end (drop (i + 1) os) ≡ all
    object_more old new all e h =
        let here : files_sites os (i + 1) stop (o ∷ drop (i + 1) os) ≡ files_sites os (i + 1) stop (drop i os) = ap (files_sites os (i + 1) stop) (sym (drop_next os i o at)) in
        let index : i + 1 + 1 ≡ suc (i + 1) = omega arith in
        append_grown old (object_sites os (i + 1) o 0 stop o.sections) (files_sites os (i + 1 + 1) end (drop (i + 1) os)) new all e
        (ap (λ n. old ++ (object_sites os (i + 1) o 0 stop o.sections ++ files_sites os n end (drop (i + 1) os))) index
        ∙ ap (λ n. old ++ (object_sites os (i + 1) o 0 stop o.sections ++ files_sites os (suc (i + 1)) n (drop (i + 1) os))) ends ∙ ap (λ l. old ++ l) here ∙ h)

pub objects_done : (file i stop : ℕ) (os rest : List Object) (new old : List Site) → length rest ≤ i → new ++ files_sites os file stop (drop i rest) ≡ old ++ files_sites os 1 0 os → new ≡ old ++ sites_of os
objects_done file i stop os rest new old past h =
    sym (append-nil new) ∙ ap (λ l. new ++ files_sites os file stop l) (sym (drop_all i rest past)) ∙ h ∙ ap (λ l. old ++ l) (sites_are os)
