use Rattle.std.proofs.Common.{◌≡◌, ◌<◌, List, ℕ, Some, None, length, map, sym, ap, subst, ◌∙◌, arith}
use Rattle.std.proofs.lemmas.List.{length-map}
use Rattle.std.proofs.lemmas.Result.{err_from_is_err_and}
use Rattle.rv_list_laws.proofs.ElementsLemmas.{get_index_or}
use Rattle.rv_list_laws.proofs.MapLemmas.{get_map}
use Rattle.rv_archive_laws.specs.Taken.{ObjectNames, Offer, Position, next_offer}
use Rattle.rv_inputs.specs.Plain.{plain_offer}
use Rattle.rv_inputs.specs.State.{IsState, IsNext, position_of}
use Rattle.rv_inputs.specs.Taken.{AreNamesOf, wanted}
use Rattle.rv_inputs.specs.Views.{gathering_of, object_of}
use Rattle.rv_inputs.proofs.SelectionLemmas.{takes_start, below_start, takes_more, takes_all, below_more, names_before, names_last, offers_one, number_below, follows_start, follows_more, taken_behind, read_start, read_more, unread_in}
use Rattle.rv_inputs.proofs.selection.taken_numbers.Goals as goal

pub loop-number-init : goal.loop-number-init
loop-number-init c =
    let objects = map object_of c.args.gathered.now.objects.items in let s = c.in_ok-search.search in record {
      offers = c.in_ok-search.ensures.offers ∙ c.as_slice.ensures.value;
      state = λ names_of are. subst (IsState names_of wanted s) (sym c.new-numbers.ensures.items) (c.in_ok-search.ensures.state names_of);
      rest = takes_start objects (map plain_offer c.args.gathered.now.offers.items) (position_of s) c.new-numbers.result.items c.new-numbers.ensures.items c.in_ok-search.ensures.front;
      follows = follows_start objects (map plain_offer c.args.gathered.now.offers.items) (position_of s) c.new-numbers.result.items c.new-numbers.ensures.items c.in_ok-search.ensures.front;
      read = read_start objects c.new-numbers.result.items c.new-numbers.ensures.items;
      within = below_start c.new-numbers.result.items (length objects) c.new-numbers.ensures.items;
    }

pub returns-clause-takes : goal.returns-clause-takes
returns-clause-takes c =
    let was = c.loop-number.invariant in let at = position_of c.loop-number.search in let numbers = c.loop-number.numbers.items in
    takes_all (map object_of c.args.gathered.now.objects.items) (map plain_offer c.args.gathered.now.offers.items) at numbers was.rest
    (λ names_of are.
    subst (λ (os : List Offer). next_offer names_of wanted os at numbers ≡ None) (ap (map plain_offer) was.offers) (c.in_default.ensures.next names_of wanted numbers (was.state names_of are)))

pub returns-in_err-names-clause-refuses : goal.returns-in_err-names-clause-refuses
returns-in_err-names-clause-refuses c =
    let g = gathering_of c.args.gathered.now in let xs = c.args.gathered.now.objects.items in let n = c.in-Some.number in let x = c.index.result.now in
    let was = c.loop-number.invariant in let numbers = c.loop-number.numbers.items in let at = position_of c.loop-number.search in let now = position_of c.next.new.self in
    let same = ap (map plain_offer) (c.in-Some.ensures.offers ∙ was.offers) in
    let known = number_below g.offers (length g.objects) n c.requires.known (offers_one c.next.new.self g.offers n same c.in-Some.ensures.free) in
    let long = length-map xs object_of in
    let less : n < length xs = omega (arith, known, long) in
    let there = get_map object_of xs n x (get_index_or xs n x less ∙ ap (λ y. Some y) (sym c.index.ensures)) in
    let next = λ (names_of : ℕ → ObjectNames) (are : AreNamesOf g.objects numbers names_of).
    subst (λ (os : List Offer). IsNext names_of wanted os at numbers n now) (ap (map plain_offer) was.offers) (c.in-Some.ensures.next names_of wanted numbers (was.state names_of are)) in
    let found = err_from_is_err_and c.from_residual-in_err-names.result c.from_residual-in_err-names.ensures.1 in
    rw (found.1, found.2)
    (unread_in g numbers n (object_of x) c.in_err-names.field-0.0 was.read (taken_behind g at now numbers n was.follows next) there c.in_err-names.ensures.refuses)

pub loop-number-preserved : goal.loop-number-preserved
loop-number-preserved c =
    let g = gathering_of c.args.gathered.now in let xs = c.args.gathered.now.objects.items in let n = c.in-Some.number in let x = c.index.result.now in
    let was = c.loop-number.invariant in let numbers = c.loop-number.numbers.items in let at = position_of c.loop-number.search in let now = position_of c.put.new.self in
    let new = c.push.new.self.items in let pushed = c.in_ok-push.ensures.items in
    let same = ap (map plain_offer) (c.in-Some.ensures.offers ∙ was.offers) in
    let known = number_below g.offers (length g.objects) n c.requires.known (offers_one c.next.new.self g.offers n same c.in-Some.ensures.free) in
    let long = length-map xs object_of in
    let less : n < length xs = omega (arith, known, long) in
    let there = get_map object_of xs n x (get_index_or xs n x less ∙ ap (λ y. Some y) (sym c.index.ensures)) in
    let said = c.in_ok-names.ensures.names in
    let next = λ (names_of : ℕ → ObjectNames) (are : AreNamesOf g.objects numbers names_of).
    subst (λ (p : Position). IsNext names_of wanted g.offers at numbers n p) (sym c.in_ok-put.ensures.stays)
    (subst (λ (os : List Offer). IsNext names_of wanted os at numbers n (position_of c.next.new.self)) (ap (map plain_offer) was.offers) (c.in-Some.ensures.next names_of wanted numbers (was.state names_of are))) in
    record {
      offers = c.in_ok-put.ensures.offers ∙ c.in-Some.ensures.offers ∙ was.offers;
      state = λ names_of are.
          let all = subst (λ (ns : List ℕ). AreNamesOf g.objects ns names_of) pushed are in
          let step = c.in-Some.ensures.state names_of wanted numbers (was.state names_of (names_before g.objects numbers n names_of all)) in
          let last = names_last g.objects numbers n names_of all (object_of x) said.0 there said.1 in
          subst (IsState names_of wanted c.put.new.self) (sym pushed) (c.in_ok-put.ensures.state names_of wanted numbers step (said.2 ∙ sym last));
      rest = takes_more g.objects g.offers at now numbers new n pushed was.rest next;
      follows = follows_more g.objects g.offers at now numbers new n pushed was.follows next;
      read = read_more g.objects numbers new n (object_of x) pushed there c.in_ok-names.ensures.good was.read;
      within = below_more numbers new n (length g.objects) pushed known was.within;
    }
