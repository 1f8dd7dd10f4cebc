use Rattle.std.proofs.Common.{◌≡◌, ℕ, ◌∷◌, ◌+◌, ◌-◌, ◌^◌, ◌<◌, ◌≤◌, ◌++◌, List, length, map, drop, slice_index_or, sym, ap, subst, ◌∙◌, rules}
use Rattle.rv_link_laws.specs.Moves.{Move}
use Rattle.rv_shorten.specs.Cut.{Cut, move_of}
use Rattle.rv_size_laws.specs.Sites.{site_end}
use Rattle.rv_cut_laws.specs.Walk.{moves_of}
use Rattle.rv_shorten.specs.SiteCuts.{cuts_of}
use Rattle.rv_shorten.proofs.StepsLemmas.{Behind, past, moves_here, one_site, inside, next_behind, all_in_order}
use Rattle.rv_shorten.proofs.sites.cuts.Goals as goal

pub returns-clause-order : goal.returns-clause-order
returns-clause-order c =
    let i = c.loop-i.i in
    all_in_order (length c.args.bytes.now) c.loop-i.gone (moves_of (site_end c.args.start.now) c.args.bytes.now (drop i c.args.sites.now) (drop i c.args.kept.now)) c.loop-i.cuts.items c.loop-i.invariant.behind

pub put_site-requires : goal.put_site-requires
put_site-requires c =
    let i = c.loop-i.i in
    let bytes = c.args.bytes.now in
    let first = site_end c.args.start.now in
    let gone = c.loop-i.gone in
    let cs = c.loop-i.cuts.items in
    let s = slice_index_or c.args.sites.now i past in
    let k = slice_index_or c.args.kept.now i 0 in
    let ss = drop (i + 1) c.args.sites.now in
    let ks = drop (i + 1) c.args.kept.now in
    let here = moves_here first bytes c.args.sites.now c.args.kept.now i c.loop-i-test.true c.requires.many in
    let b : Behind (length bytes) (moves_of first bytes (s ∷ ss) (k ∷ ks)) gone cs = subst (λ (l : List Move). Behind (length bytes) l gone cs) here c.loop-i.invariant.behind in
    record { inside = λ is. subst (λ (n : ℕ). (n + 8 ≤ length bytes) × (gone ≤ n)) (sym c.place_of.ensures) (inside (length bytes) first gone bytes s k ss ks cs b is) }

pub loop-i-preserved : goal.loop-i-preserved
loop-i-preserved c =
    let i = c.loop-i.i in
    let bytes = c.args.bytes.now in
    let first = site_end c.args.start.now in
    let gone = c.loop-i.gone in
    let cs = c.loop-i.cuts.items in
    let s = slice_index_or c.args.sites.now i past in
    let k = slice_index_or c.args.kept.now i 0 in
    let ss = drop (i + 1) c.args.sites.now in
    let ks = drop (i + 1) c.args.kept.now in
    let rest = moves_of first bytes ss ks in
    let whole = moves_of first bytes c.args.sites.now c.args.kept.now in
    let here = moves_here first bytes c.args.sites.now c.args.kept.now i c.loop-i-test.true c.requires.many in
    let b : Behind (length bytes) (moves_of first bytes (s ∷ ss) (k ∷ ks)) gone cs = subst (λ (l : List Move). Behind (length bytes) l gone cs) here c.loop-i.invariant.behind in
    let items : c.put_site.new.cuts.items ≡ cs ++ cuts_of (s.offset - first) gone bytes s k = c.in_ok-gone.ensures.items ∙ ap (λ n. cs ++ cuts_of n gone bytes s k) c.place_of.ensures in
    let fits : length bytes < 2 ^ 64 = search rules in
    record {
      made = ap (λ l. map move_of l ++ rest) items ∙ one_site first gone bytes s k ss ks cs whole (sym (ap (λ l. map move_of cs ++ l) here) ∙ c.loop-i.invariant.made);
      behind = subst (λ (l : List Cut). Behind (length bytes) rest c.in_ok-gone.gone l) (sym items)
          (subst (λ (g : ℕ). Behind (length bytes) rest g (cs ++ cuts_of (s.offset - first) gone bytes s k)) (sym c.in_ok-gone.ensures.gone)
          (next_behind (length bytes) first gone bytes s k ss ks cs fits b));
    }
