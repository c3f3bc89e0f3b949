use Rattle.std.proofs.Common.{subst}
use Rattle.crl_turns.specs.declared.faults.AppendFault.TheVariants.{Moved, Spent}
use Rattle.crl_turns.specs.Fronts.{Runs}
use Rattle.crl_cluster.specs.Standing.{MayCome}
use Rattle.crl_cluster.specs.Clusters.{view_of, shape_of}
use Rattle.crl_cluster.specs.Acting.{IsUndone}
use Rattle.crl_cluster.specs.Faults.{fault_of}
use Rattle.crl_cluster.proofs.Learning.{may_later, has_later, comes_later, undone_later, learns_more}
use Rattle.crl_cluster.proofs.cluster.Cluster.append_next.Goals as goal

pub append_once-requires-clause-enabled : goal.append_once-requires-clause-enabled
append_once-requires-clause-enabled g c =
    let s = shape_of c.args.self.now in
    let old = view_of c.args.pass.now in
    let now = view_of c.loop-at.pass in
    let runs_old = subst (λ s. Runs (MayCome s) old.front) c.requires.here.shape_is c.args.pass.now.runs in
    let runs = subst (λ s. Runs (MayCome s) now.front) c.loop-at.invariant.here.shape_is c.loop-at.pass.runs in
    may_later s old now c.loop-at.invariant.learns (g.E.Evented.event c.args.event.now) c.requires.has runs_old runs c.requires.enabled

pub append_once-requires-clause-has : goal.append_once-requires-clause-has
append_once-requires-clause-has g c =
    has_later (shape_of c.args.self.now) (view_of c.args.pass.now) (view_of c.loop-at.pass) c.loop-at.invariant.learns (g.E.Evented.event c.args.event.now) c.requires.has

pub returns-in-Ok-clause-told : goal.returns-in-Ok-clause-told
returns-in-Ok-clause-told g c =
    comes_later (shape_of c.args.self.now) (view_of c.args.pass.now) (view_of c.loop-at.pass) c.loop-at.invariant.learns (g.E.Evented.event c.args.event.now) c.requires.has
    c.in-Ok.at (view_of c.append_once.new.pass) c.in-Ok.ensures.told

pub returns-in-Err-Spent-clause-told : goal.returns-in-Err-Spent-clause-told
returns-in-Err-Spent-clause-told g c =
    let s = shape_of c.args.self.now in
    let now = view_of c.loop-at.pass in
    let new = view_of c.append_once.new.pass in
    undone_later s (view_of c.args.pass.now) now c.loop-at.invariant.learns Spent new
    (subst (λ fault. IsUndone s now (fault_of fault) new) c.in-Err-Spent.field-0-is c.in-Err-Spent.ensures.told)

pub returns-then-left-eq0-clause-told : goal.returns-then-left-eq0-clause-told
returns-then-left-eq0-clause-told g c =
    let s = shape_of c.args.self.now in
    let now = view_of c.loop-at.pass in
    let new = view_of c.append_once.new.pass in
    undone_later s (view_of c.args.pass.now) now c.loop-at.invariant.learns (Moved c.in-Err-Moved.saw c.in-Err-Moved.found) new
    (subst (λ fault. IsUndone s now (fault_of fault) new) c.in-Err-Moved.field-0-is c.in-Err-Moved.ensures.told)

pub loop-at-preserved : goal.loop-at-preserved
loop-at-preserved g c =
    let s = shape_of c.args.self.now in
    let now = view_of c.loop-at.pass in
    let new = view_of c.append_once.new.pass in
    record {
      here = c.in-Err-Moved.ensures.here;
      learns = learns_more s (view_of c.args.pass.now) now c.loop-at.invariant.learns c.in-Err-Moved.saw c.in-Err-Moved.found new
          (subst (λ fault. IsUndone s now (fault_of fault) new) c.in-Err-Moved.field-0-is c.in-Err-Moved.ensures.told);
    }
