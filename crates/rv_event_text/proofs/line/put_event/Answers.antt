use Rattle.std.proofs.Common.{List, ℕ, [], ◌∷◌, ◌++◌, ◌∙◌, codes}
use Rattle.rv_isa_laws.specs.Memory.{Mem}
use Rattle.rv_machine.specs.declared.event.Event.{Event}
use Rattle.rv_machine.specs.Fetch.{fetched_of}
use Rattle.rv_machine.specs.Seen.{end_of, in_span}
use Rattle.rv_event_text_laws.specs.EventLine.{hex_digits, fetched_text, accessed_text, set_text, moved_text, ended_text}
use Rattle.rv_event_text.proofs.LinesLemmas.{joined, handed_on}
use Rattle.rv_event_text.proofs.line.put_event.Goals as goal

pub returns-clause-line : goal.returns-clause-line
returns-clause-line g c =
    let m : Mem = g.M.Memory.mem c.args.memory.now in
    let e : Event = c.args.event.now in
    let pc : List ℕ = hex_digits 16 e.pc in
    let blank : List ℕ = codes " " in
    let fetched : List ℕ = fetched_text (fetched_of e.fetched) in
    let read : List ℕ = accessed_text (codes "->") e.read in
    let set : List ℕ = set_text e.set in
    let stored : List ℕ = accessed_text (codes "<-") e.stored in
    let taken : List ℕ = moved_text (codes " input ") (in_span m e.taken) in
    let put : List ℕ = moved_text (codes " output ") (in_span m e.put) in
    let ended : List ℕ = ended_text (end_of e.end) ++ 10 ∷ [] in
    let t0 : List ℕ = c.args.text.now.items in
    let t1 : List ℕ = c.put_digits.new.text.items in
    let t2 : List ℕ = c.put.new.text.items in
    let t3 : List ℕ = c.put_fetched.new.text.items in
    let t4 : List ℕ = c.put_accessed.new.text.items in
    let t5 : List ℕ = c.put_set.new.text.items in
    let t6 : List ℕ = c.put_accessed-2.new.text.items in
    let t7 : List ℕ = c.put_moved.new.text.items in
    let t8 : List ℕ = c.put_moved-2.new.text.items in
    let t9 : List ℕ = c.put_ended.new.text.items in
    joined t0 t1 t9 pc (blank ++ (fetched ++ (read ++ (set ++ (stored ++ (taken ++ (put ++ ended))))))) c.in_ok-put_digits.ensures
    (joined t1 t2 t9 blank (fetched ++ (read ++ (set ++ (stored ++ (taken ++ (put ++ ended)))))) c.in_ok-put.ensures
    (joined t2 t3 t9 fetched (read ++ (set ++ (stored ++ (taken ++ (put ++ ended))))) c.in_ok-put_fetched.ensures.text
    (joined t3 t4 t9 read (set ++ (stored ++ (taken ++ (put ++ ended)))) c.in_ok-put_accessed.ensures.text
    (joined t4 t5 t9 set (stored ++ (taken ++ (put ++ ended))) c.in_ok-put_set.ensures
    (joined t5 t6 t9 stored (taken ++ (put ++ ended)) c.in_ok-put_accessed-2.ensures.text
    (joined t6 t7 t9 taken (put ++ ended) c.in_ok-put_moved.ensures.text
    (joined t7 t8 t9 put ended c.in_ok-put_moved-2.ensures.text c.in_ok-put_ended.ensures)))))))

pub returns-in_err-put_fetched-clause-refused : goal.returns-in_err-put_fetched-clause-refused
returns-in_err-put_fetched-clause-refused g c = λ machine taken put.
    handed_on c.from_residual-in_err-put_fetched.result _ c.from_residual-in_err-put_fetched.ensures.1 (λ f is. is ∙ c.in_err-put_fetched.ensures.refused machine.fetched)

pub returns-in_err-put_accessed-clause-refused : goal.returns-in_err-put_accessed-clause-refused
returns-in_err-put_accessed-clause-refused g c = λ machine taken put.
    handed_on c.from_residual-in_err-put_accessed.result _ c.from_residual-in_err-put_accessed.ensures.1 (λ f is. is ∙ c.in_err-put_accessed.ensures.refused machine.read)

pub returns-in_err-put_accessed-2-clause-refused : goal.returns-in_err-put_accessed-2-clause-refused
returns-in_err-put_accessed-2-clause-refused g c = λ machine taken put.
    handed_on c.from_residual-in_err-put_accessed-2.result _ c.from_residual-in_err-put_accessed-2.ensures.1 (λ f is. is ∙ c.in_err-put_accessed-2.ensures.refused machine.stored)

pub returns-in_err-put_moved-clause-refused : goal.returns-in_err-put_moved-clause-refused
returns-in_err-put_moved-clause-refused g c = λ machine taken put.
    handed_on c.from_residual-in_err-put_moved.result _ c.from_residual-in_err-put_moved.ensures.1 (λ f is. is ∙ c.in_err-put_moved.ensures.refused taken)

pub returns-in_err-put_moved-2-clause-refused : goal.returns-in_err-put_moved-2-clause-refused
returns-in_err-put_moved-2-clause-refused g c = λ machine taken put.
    handed_on c.from_residual-in_err-put_moved-2.result _ c.from_residual-in_err-put_moved-2.ensures.1 (λ f is. is ∙ c.in_err-put_moved-2.ensures.refused put)
