-- What the walk along the sites cuts of sections is what the sizes of calls say.

use Rattle.std.proofs.Common.{◌≡◌, ℕ, suc, List, [], ◌∷◌, length, drop, refl, ap, ◌∙◌, arith}
use Rattle.rv_size_laws.specs.Calls.{IsText}
use Rattle.rv_object_laws.specs.Object.{Section, Object}
use Rattle.rv_link_laws.specs.Moves.{Move}
use Rattle.rv_link_laws.specs.Inputs.{goes_to_text, inputs_of}
use Rattle.rv_link_laws.specs.CallSites.{sites_from, sites_of}
use Rattle.rv_link_laws.specs.Shortened.{Sizes, sizes_by, cuts}
use Rattle.rv_cut_laws.specs.Walk.{passed_all}
use Rattle.rv_cut_laws.proofs.LineLemmas.{AllSound, Stands}
use Rattle.rv_cut_laws.proofs.LaidLemmas.{cuts_listed, all_steps}
use Rattle.rv_shorten.specs.Cuts.{section_cuts, cuts_from, object_cuts, walked_cuts}

pub listed : (sizes : ℕ → Sizes) (index : ℕ) (ss : List Section) → cuts_listed sizes index ss ≡ section_cuts sizes index ss
listed sizes index [] = refl
listed sizes index (s ∷ ss) = ap (λ l. cuts (sizes index) s ∷ l) (listed sizes (suc index) ss)

all_walked : (os : List Object) (kept : List ℕ) (f at : ℕ) (left : List Object) (ks : List ℕ) → AllSound left → Stands os kept f 0 at (inputs_of goes_to_text f left) ks
    → walked_cuts left (sites_from os at (inputs_of goes_to_text f left)) ks ≡ cuts_from (sizes_by os kept) f left
all_walked os kept f at [] ks sound stands = refl
all_walked os kept f at (o ∷ left) ks sound stands =
    let sites = sites_from os at (inputs_of goes_to_text f (o ∷ left)) in
    let one = all_steps os kept f 0 at o o.sections (inputs_of goes_to_text (suc f) left) ks sound.0 stands in
    let rest = drop (passed_all o.sections sites) ks in
    ap (λ (m : List (List Move)). m ∷ walked_cuts left (drop (passed_all o.sections sites) sites) rest) (one.moves ∙ listed (sizes_by os kept f) 0 o.sections)
    ∙ ap (λ l. section_cuts (sizes_by os kept f) 0 o.sections ∷ walked_cuts left l rest) one.rest
    ∙ ap (λ l. section_cuts (sizes_by os kept f) 0 o.sections ∷ l) (all_walked os kept (suc f) one.end left rest sound.1 one.stands)

pub cuts_are : (os : List Object) (kept : List ℕ) → AllSound os → IsText (sites_of os) → length kept ≡ length (sites_of os) → walked_cuts os (sites_of os) kept ≡ object_cuts kept os
cuts_are os kept sound text many =
    all_walked os kept 1 0 os kept sound (record {
      base_is = λ g y later. omega arith;
      size_is = λ o low. refl;
      many = many;
      order = text.in_order;
    })
