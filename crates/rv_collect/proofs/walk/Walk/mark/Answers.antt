use Rattle.std.proofs.Common.{◌∙◌, map, sym}
use Rattle.rv_object_types.specs.View.{object_of}
use Rattle.rv_collect.specs.declared.walk.Walk.{Walk}
use Rattle.rv_collect.specs.Marks.{mark_rows}
use Rattle.rv_collect.proofs.LoadedLemmas.{has_loaded, is_has, is_not}
use Rattle.rv_collect.proofs.WalkLemmas.{more_walk, more_grows, more_is, has_mark}
use Rattle.rv_collect.proofs.walk.Walk.mark.Goals as goal

pub returns-then-not-is_loaded-clause-marked : goal.returns-then-not-is_loaded-clause-marked
returns-then-not-is_loaded-clause-marked c = λ has. absurd (is_not (map object_of c.args.objects.now) c.args.file.0 c.args.index.0 c.is_loaded.result c.is_loaded.ensures c.if-not-is_loaded.true has)

pub put-requires : goal.put-requires
put-requires c =
    let os = map object_of c.args.objects.now in
    let has = is_has os c.args.file.0 c.args.index.0 c.is_loaded.result c.is_loaded.ensures c.if-not-is_loaded.false in
    has_mark os (mark_rows c.args.self.now.marks) c.args.file.0 c.args.index.0 c.requires.walk.like (has_loaded os c.args.file.0 c.args.index.0 has)

pub returns-clause-walk : goal.returns-clause-walk
returns-clause-walk c =
    let os = map object_of c.args.objects.now in
    let new : Walk = record { marks = c.put.new.self; queue = c.push.new.self } in
    more_walk os c.args.self.now new c.args.file c.args.index (record {
      walk = c.requires.walk;
      reached = c.requires.reached;
      has = is_has os c.args.file.0 c.args.index.0 c.is_loaded.result c.is_loaded.ensures c.if-not-is_loaded.false;
      unmarked = sym c.at.ensures ∙ c.if-at.false;
      marks = c.put.ensures.marked;
      like = c.put.ensures.like;
      queue = c.in_ok-push.ensures.items;
    })

pub returns-clause-grows : goal.returns-clause-grows
returns-clause-grows c =
    let os = map object_of c.args.objects.now in
    let new : Walk = record { marks = c.put.new.self; queue = c.push.new.self } in
    more_grows os c.args.self.now new c.args.file c.args.index (record {
      walk = c.requires.walk;
      reached = c.requires.reached;
      has = is_has os c.args.file.0 c.args.index.0 c.is_loaded.result c.is_loaded.ensures c.if-not-is_loaded.false;
      unmarked = sym c.at.ensures ∙ c.if-at.false;
      marks = c.put.ensures.marked;
      like = c.put.ensures.like;
      queue = c.in_ok-push.ensures.items;
    })

pub returns-clause-marked : goal.returns-clause-marked
returns-clause-marked c = λ has.
    let os = map object_of c.args.objects.now in
    let new : Walk = record { marks = c.put.new.self; queue = c.push.new.self } in
    more_is os c.args.self.now new c.args.file c.args.index (record {
      walk = c.requires.walk;
      reached = c.requires.reached;
      has = has;
      unmarked = sym c.at.ensures ∙ c.if-at.false;
      marks = c.put.ensures.marked;
      like = c.put.ensures.like;
      queue = c.in_ok-push.ensures.items;
    })
