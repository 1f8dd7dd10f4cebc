-- The sums over events, one event after the other.

use Rattle.std.proofs.Common.{◌≡◌, List, [], ◌∷◌, ◌++◌, sym, ap, ◌∙◌}
use Rattle.std.proofs.lemmas.List.Sums.{fold-append}
use Rattle.rv_event_laws.specs.Event.{Event}
use Rattle.rv_counts.specs.declared.totals.Totals.{Totals}
use Rattle.rv_counts.specs.Totals.{with_event, nothing, totals_of}

-- sums that have all events so far have one more
pub one_more : (before after : Totals) (past : List Event) (e : Event) → before ≡ totals_of past → after ≡ with_event before e → after ≡ totals_of (past ++ (e ∷ []))
one_more before after past e so_far next =
    next ∙ ap (λ (t : Totals). with_event t e) so_far ∙ sym (fold-append with_event nothing past (e ∷ []))
