use Rattle.std.proofs.Common.{◌++◌, ◌||◌, arith, sym, ap, ◌∙◌, append_assoc}
use Rattle.crl_home.specs.Posts.{letter_pieces}
use Rattle.crl_home.proofs.Turns.{own_turn, grant_turn, first_head, one_fewer, or_true}
use Rattle.crl_home.proofs.home.Home.serve.Goals as goal

pub loop-ask-preserved-then-ask-me : goal.loop-ask-preserved-then-ask-me
loop-ask-preserved-then-ask-me c =
    let at = c.loop-ask in
    let h = first_head c.in-Some.ask at.self.queue c.in-Some.ensures in
    let s = sym c.can_serve.ensures ∙ c.if-not-can_serve.false in
    let t = own_turn c.args.me at.self c.in-Some.ask at.self.queue h s c.if-ask-me.true in
    let n = one_fewer c.in-Some.ask at.self.queue h in
    let o = c.open_head.ensures.owes in
    record {
      home = rw c.open_head.ensures.home (sym (ap (λ r. r.home) t) ∙ at.invariant.home);
      posts = rw c.open_head.ensures.home (ap (λ r. at.out.list ++ letter_pieces c.args.me c.args.name r.posts) (sym t) ∙ at.invariant.posts);
      opened = sym (or_true at.opened) ∙ (ap (λ r. at.opened || r.opened) (sym t) ∙ at.invariant.opened);
      places = at.invariant.places;
      owes = omega (arith, o, at.invariant.owes);
      room = omega (arith, o, at.invariant.room);
      versions = rw c.open_head.ensures.home (omega (arith, n, at.invariant.versions));
      nodes = rw c.open_head.ensures.home at.invariant.nodes;
    }

pub loop-ask-preserved : goal.loop-ask-preserved
loop-ask-preserved c =
    let at = c.loop-ask in let granted = c.grant_head.ensures in
    let h = first_head c.in-Some.ask at.self.queue c.in-Some.ensures in
    let s = sym c.can_serve.ensures ∙ c.if-not-can_serve.false in
    let t = grant_turn c.args.me at.self c.in-Some.ask at.self.queue h s c.if-ask-me.false in
    let n = one_fewer c.in-Some.ask at.self.queue h in
    record {
      home = rw granted.home (sym (ap (λ r. r.home) t) ∙ at.invariant.home);
      posts = rw (granted.home, granted.posts, append_assoc) (ap (λ r. at.out.list ++ letter_pieces c.args.me c.args.name r.posts) (sym t) ∙ at.invariant.posts);
      opened = rw granted.home (ap (λ r. at.opened || r.opened) (sym t) ∙ at.invariant.opened);
      places = granted.places ∙ at.invariant.places;
      owes = omega (arith, granted.owes, at.invariant.owes);
      room = omega (arith, granted.owes, granted.places, at.invariant.room);
      versions = rw granted.home (omega (arith, n, at.invariant.versions));
      nodes = granted.nodes ∙ at.invariant.nodes;
    }
