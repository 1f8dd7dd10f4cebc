use Rattle.std.proofs.Common.{length, map, Some, sym, ap, ◌∙◌}
use Rattle.std.proofs.lemmas.Bool.{eqb-true, eq-eqb, false≢true}
use Rattle.rv_map.specs.Views.{map_of, global_of}
use Rattle.rv_map.proofs.WholeLemmas.{Found, found_in, has_head, whole_text}
use Rattle.rv_map.proofs.reading.read.Goals as goal

pub returns-in_default-clause-only : goal.returns-in_default-clause-only
returns-in_default-clause-only c = λ m is e. absurd (has_head m is c.args.bytes.now e c.in_default.ensures.exact)

pub returns-then-not-is_empty-clause-only : goal.returns-then-not-is_empty-clause-only
returns-then-not-is_empty-clause-only c = λ m is e.
    let found : Found c.args.bytes.now (map_of c.in-Some.map) c.in_ok-gaps.gaps.items (map global_of c.in_ok-globals.globals.items) c.in_ok-drops.drops.items c.in_ok-rows.rows.items c.in_ok-rows.rest.now =
    record {
      behind_head = c.in-Some.rest.now;
      behind_gaps = c.in_ok-gaps.rest.now;
      behind_globals = c.in_ok-globals.rest.now;
      behind_drops = c.in_ok-drops.rest.now;
      head_read = c.in-Some.ensures.exact;
      gaps_read = record { read = c.in_ok-gaps.ensures.found; end = c.in_ok-gaps.ensures.all; are = c.in_ok-gaps.ensures.fit };
      globals_read = record { read = c.in_ok-globals.ensures.found; end = c.in_ok-globals.ensures.all; are = c.in_ok-globals.ensures.fit };
      drops_read = record { read = c.in_ok-drops.ensures.found; end = c.in_ok-drops.ensures.all; are = c.in_ok-drops.ensures.fit };
      rows_read = record { read = c.in_ok-rows.ensures.found; end = c.in_ok-rows.ensures.all; are = c.in_ok-rows.ensures.fit };
    } in
    let nothing = (found_in m is (map_of c.in-Some.map) c.in_ok-gaps.gaps.items (map global_of c.in_ok-globals.globals.items) c.in_ok-drops.drops.items c.in_ok-rows.rows.items c.args.bytes.now c.in_ok-rows.rest.now e found).1 in
    absurd (false≢true (sym c.if-not-is_empty.true ∙ c.is_empty.ensures ∙ eq-eqb (length c.in_ok-rows.rest.now) 0 (ap length nothing)))

pub returns-clause-found : goal.returns-clause-found
returns-clause-found c =
    whole_text (map_of c.in-Some.map) c.in_ok-gaps.gaps.items (map global_of c.in_ok-globals.globals.items) c.in_ok-drops.drops.items c.in_ok-rows.rows.items c.args.bytes.now
    c.in-Some.rest.now c.in_ok-gaps.rest.now c.in_ok-globals.rest.now c.in_ok-drops.rest.now c.in_ok-rows.rest.now
    c.in-Some.ensures.found c.in_ok-gaps.ensures.found c.in_ok-globals.ensures.found c.in_ok-drops.ensures.found c.in_ok-rows.ensures.found
    (eqb-true (length c.in_ok-rows.rest.now) 0 (sym c.is_empty.ensures ∙ c.if-not-is_empty.false))

pub returns-clause-only : goal.returns-clause-only
returns-clause-only c = λ m is e.
    let found : Found c.args.bytes.now (map_of c.in-Some.map) c.in_ok-gaps.gaps.items (map global_of c.in_ok-globals.globals.items) c.in_ok-drops.drops.items c.in_ok-rows.rows.items c.in_ok-rows.rest.now =
    record {
      behind_head = c.in-Some.rest.now;
      behind_gaps = c.in_ok-gaps.rest.now;
      behind_globals = c.in_ok-globals.rest.now;
      behind_drops = c.in_ok-drops.rest.now;
      head_read = c.in-Some.ensures.exact;
      gaps_read = record { read = c.in_ok-gaps.ensures.found; end = c.in_ok-gaps.ensures.all; are = c.in_ok-gaps.ensures.fit };
      globals_read = record { read = c.in_ok-globals.ensures.found; end = c.in_ok-globals.ensures.all; are = c.in_ok-globals.ensures.fit };
      drops_read = record { read = c.in_ok-drops.ensures.found; end = c.in_ok-drops.ensures.all; are = c.in_ok-drops.ensures.fit };
      rows_read = record { read = c.in_ok-rows.ensures.found; end = c.in_ok-rows.ensures.all; are = c.in_ok-rows.ensures.fit };
    } in
    ap (λ n. Some n) (found_in m is (map_of c.in-Some.map) c.in_ok-gaps.gaps.items (map global_of c.in_ok-globals.globals.items) c.in_ok-drops.drops.items c.in_ok-rows.rows.items c.args.bytes.now c.in_ok-rows.rest.now e found).0
