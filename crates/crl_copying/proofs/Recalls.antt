-- A recall and a yield, where the region is here and where it isn't.
use Rattle.std.proofs.Common.{◌≡◌, refl, ℕ, List, ◌++◌, append-nil, arith}
use Rattle.std.specs.declared.option.Option.{Option}
use Rattle.std.specs.declared.option.Option.TheVariants.{Some, None}
use Rattle.std.specs.Prelude.{IsSome}
use Rattle.crl_model.specs.declared.name.Name.{Name}
use Rattle.crl_model.specs.declared.piece.Piece.{Piece}
use Rattle.crl_model.specs.declared.message.Kind.TheVariants as kind
use Rattle.crl_model.specs.Names.{at_name}
use Rattle.crl_protocol.specs.Remote.{Remote, RemoteStep, remote_takes_recall, remote_takes_yield}
use Rattle.crl_protocol.specs.Node.{Node}
use Rattle.crl_protocol.specs.Handlers.{node_handles, takes_call_back, ignores}
use Rattle.crl_protocol.specs.Sectioning.{after_remote}
use Rattle.crl_remote.specs.Posts.{mail_pieces}
use Rattle.crl_remote.specs.RemotesState.{row_or, size_or_none}
use Rattle.crl_desk.specs.Desks.{acted}

pub nothing_acted : (at : ℕ) (n : Node) → n ≡ acted at (ignores n)
nothing_acted at n = rw (append-nil n.outbox, append-nil n.records) refl

call_back_law : (at : ℕ) (name : Name) (n : Node) (step : Remote → RemoteStep) (r : Remote) (rows : Name → Option Remote) (out : List Piece) (sender : ℕ)
    → sender ≡ n.me → n.remotes name ≡ Some r
    → rows ≡ at_name n.remotes name (Some (step r).remote)
    → out ≡ n.outbox ++ mail_pieces sender name (step r).posts
    → record n { remotes = rows; outbox = out } ≡ acted at (takes_call_back name step (n.remotes name) n)
unfolding after_remote
call_back_law at name n step r rows out sender is_me there rows_are out_is =
    rw rows_are (rw out_is (rw is_me (rw there (rw (append-nil n.records) refl))))

pub recall_law : (at : ℕ) (from : ℕ) (name : Name) (version : ℕ) (n : Node) (r : Remote) (rows : Name → Option Remote) (out : List Piece) (sender : ℕ)
    → sender ≡ n.me → n.remotes name ≡ Some r
    → rows ≡ at_name n.remotes name (Some (remote_takes_recall version r).remote)
    → out ≡ n.outbox ++ mail_pieces sender name (remote_takes_recall version r).posts
    → record n { remotes = rows; outbox = out } ≡ acted at (node_handles from (kind.Recall name version) n)
unfolding node_handles
recall_law at from name version n r rows out sender is_me there rows_are out_is =
    call_back_law at name n (remote_takes_recall version) r rows out sender is_me there rows_are out_is

pub yield_law : (at : ℕ) (from : ℕ) (name : Name) (version : ℕ) (n : Node) (r : Remote) (rows : Name → Option Remote) (out : List Piece) (sender : ℕ)
    → sender ≡ n.me → n.remotes name ≡ Some r
    → rows ≡ at_name n.remotes name (Some (remote_takes_yield version r).remote)
    → out ≡ n.outbox ++ mail_pieces sender name (remote_takes_yield version r).posts
    → record n { remotes = rows; outbox = out } ≡ acted at (node_handles from (kind.Yield name version) n)
unfolding node_handles
yield_law at from name version n r rows out sender is_me there rows_are out_is =
    call_back_law at name n (remote_takes_yield version) r rows out sender is_me there rows_are out_is

pub recall_of_none : (at from : ℕ) (name : Name) (version : ℕ) (n : Node) → n.remotes name ≡ None → n ≡ acted at (node_handles from (kind.Recall name version) n)
unfolding node_handles
recall_of_none at from name version n none = rw none (nothing_acted at n)

pub yield_of_none : (at from : ℕ) (name : Name) (version : ℕ) (n : Node) → n.remotes name ≡ None → n ≡ acted at (node_handles from (kind.Yield name version) n)
unfolding node_handles
yield_of_none at from name version n none = rw none (nothing_acted at n)

pub row_is_there : (o : Option Remote) → IsSome o → o ≡ Some (row_or o)
row_is_there None i = grind arith
row_is_there (Some r) i = refl

pub no_row : (o : Option Remote) (size : Option ℕ) → size ≡ size_or_none o → size ≡ None → o ≡ None
no_row None size e none = refl
no_row (Some r) size e none = cc
