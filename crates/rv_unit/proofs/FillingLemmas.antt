-- Tables that are filled statement by statement.

use Rattle.std.proofs.Common.{◌≡◌, ℕ, suc, ◌+◌, List, [], ◌∷◌, ◌++◌, sym, ap, ◌∙◌, subst, arith, append_assoc}
use Rattle.rv_statement_laws.specs.Statement.{Statement}
use Rattle.rv_unit_laws.specs.Options.{Options}
use Rattle.rv_unit_laws.specs.Tables.{Tables, SectionOffset, after, after_all, tables, stood, places, places_from, options_from, all_options}
use Rattle.rv_unit_laws.proofs.BeforeLemmas.{IsBefore, before_after}

-- `done` statements are done, and with what the rest changes the tables and the offsets are those of all
pub record FillsTo (t : Tables) (done : ℕ) (rest all : List Statement) (so_far : List SectionOffset) : Type 0 where
  pub before : IsBefore t (done + 1)
  pub fills : after_all t (done + 1) rest ≡ tables all
  pub stand : so_far ++ places_from t (done + 1) rest ≡ places all

pub fills_more : (t u : Tables) (done : ℕ) (s : Statement) (rest more all : List Statement) (so_far new : List SectionOffset) (p : SectionOffset) → FillsTo t done rest all so_far → rest ≡ s ∷ more → u ≡ after t (done + 1) s.kind → p ≡ stood t (done + 1) s.kind → new ≡ so_far ++ p ∷ []
    → FillsTo u (done + 1) more all new
fills_more t u done s rest more all so_far new p f is changed stands added = record {
  before = subst (λ v. IsBefore v (done + 1 + 1)) (sym changed) (subst (IsBefore (after t (done + 1) s.kind)) next (before_after t (done + 1) s.kind f.before));
  fills = ap (λ v. after_all v (done + 1 + 1) more) changed ∙ ap (λ n. after_all (after t (done + 1) s.kind) n more) (sym next) ∙ sym (ap (after_all t (done + 1)) is) ∙ f.fills;
  stand = ap (λ l. l ++ places_from u (done + 1 + 1) more) added ∙ append_assoc so_far (p ∷ []) (places_from u (done + 1 + 1) more)
      ∙ ap (λ q. so_far ++ q ∷ places_from u (done + 1 + 1) more) stands
      ∙ ap (λ v. so_far ++ stood t (done + 1) s.kind ∷ places_from v (done + 1 + 1) more) changed
      ∙ ap (λ n. so_far ++ stood t (done + 1) s.kind ∷ places_from (after t (done + 1) s.kind) n more) (sym next)
      ∙ sym (ap (λ l. so_far ++ places_from t (done + 1) l) is) ∙ f.stand;
}
  where
    next : suc (done + 1) ≡ done + 1 + 1
    next = omega arith

-- the options so far and those of the rest
pub options_more : (t u : Tables) (done : ℕ) (s : Statement) (rest more all : List Statement) (so_far new : List Options) → so_far ++ options_from t (done + 1) rest ≡ all_options all → rest ≡ s ∷ more → u ≡ after t (done + 1) s.kind
    → new ≡ so_far ++ t.options ∷ [] → new ++ options_from u (done + 1 + 1) more ≡ all_options all
options_more t u done s rest more all so_far new whole is changed added =
    ap (λ l. l ++ options_from u (done + 1 + 1) more) added ∙ append_assoc so_far (t.options ∷ []) (options_from u (done + 1 + 1) more)
    ∙ ap (λ v. so_far ++ t.options ∷ options_from v (done + 1 + 1) more) changed
    ∙ ap (λ n. so_far ++ t.options ∷ options_from (after t (done + 1) s.kind) n more) (let e : done + 1 + 1 ≡ suc (done + 1) = omega arith in e)
    ∙ sym (ap (λ l. so_far ++ options_from t (done + 1) l) is) ∙ whole
