-- A home has served its queue, and its own section opens if that was served.
use Rattle.std.proofs.Common.{◌≡◌, refl, sym, ap, ℕ, ◌-◌, Bool, true, false, List, ◌++◌, append-nil, ◌∙◌}
use Rattle.std.specs.declared.option.Option.{Option}
use Rattle.std.specs.declared.option.Option.TheVariants.{Some}
use Rattle.crl_model.specs.declared.name.Name.{Name}
use Rattle.crl_model.specs.declared.piece.Piece.{Piece}
use Rattle.crl_model.specs.declared.directory.Asked.{Asked}
use Rattle.crl_model.specs.declared.message.Kind.TheVariants as kind
use Rattle.crl_protocol.specs.Home.{Home, HomeStep, home_takes_ask, home_takes_return, home_takes_release, return_fits, release_fits}
use Rattle.crl_protocol.specs.Places.{put}
use Rattle.crl_protocol.specs.Node.{Node, home_of, section_opens}
use Rattle.crl_protocol.specs.Sectioning.{after_serve}
use Rattle.crl_protocol.specs.Handlers.{node_handles, is_queued_in}
use Rattle.crl_home.specs.Posts.{letter_pieces}
use Rattle.crl_home.specs.HomesState.{HomesState, table_at, with_table, ask_step, return_step, release_step}
use Rattle.crl_desk.specs.Desks.{acted}
use Rattle.crl_copying.specs.Serving.{own_section, ready_with, if_served}
use Rattle.crl_copying.proofs.Homes.{home_is_table, home_is_some, put_table}

-- what was posted and the table, if the home's own section opened, and if not
served_open : (at : ℕ) (name : Name) (n : Node) (s : HomeStep) (homes : List (Option Home)) (out : List Piece) (sender : ℕ)
    → s.opened ≡ true → sender ≡ n.me → homes ≡ put (name.serial - 1) (Some s.home) n.homes → out ≡ n.outbox ++ letter_pieces sender name s.posts
    → table_at name homes ≡ s.home
    → ready_with at (own_section name (table_at name homes) (record n { homes = homes; outbox = out })) ≡ acted at (after_serve name s n)
unfolding after_serve section_opens
served_open at name n s homes out sender opens is_me homes_are out_is table_is =
    rw table_is (rw homes_are (rw out_is (rw is_me (rw opens refl))))

served_shut : (at : ℕ) (name : Name) (n : Node) (s : HomeStep) (homes : List (Option Home)) (out : List Piece) (sender : ℕ)
    → s.opened ≡ false → sender ≡ n.me → homes ≡ put (name.serial - 1) (Some s.home) n.homes → out ≡ n.outbox ++ letter_pieces sender name s.posts
    → record n { homes = homes; outbox = out } ≡ acted at (after_serve name s n)
unfolding after_serve
served_shut at name n s homes out sender shut is_me homes_are out_is =
    rw homes_are (rw out_is (rw is_me (rw shut (rw (append-nil n.records) refl))))

served_if : (at : ℕ) (name : Name) (n : Node) (s : HomeStep) (homes : List (Option Home)) (out : List Piece) (sender : ℕ) (opened : Bool)
    → opened ≡ s.opened → sender ≡ n.me → homes ≡ put (name.serial - 1) (Some s.home) n.homes → out ≡ n.outbox ++ letter_pieces sender name s.posts
    → table_at name homes ≡ s.home
    → if_served at name opened (record n { homes = homes; outbox = out }) ≡ acted at (after_serve name s n)
served_if at name n s homes out sender true opens is_me homes_are out_is table_is =
    served_open at name n s homes out sender (sym opens) is_me homes_are out_is table_is
served_if at name n s homes out sender false opens is_me homes_are out_is table_is =
    served_shut at name n s homes out sender (sym opens) is_me homes_are out_is

-- the step, over the table as the code has it
served_law : (at : ℕ) (name : Name) (n : Node) (h : Home) (s : HomeStep) (old new : HomesState) (out : List Piece) (opened : Bool) (last : Node)
    → home_of n name ≡ Some h → old.homes ≡ n.homes → old.me ≡ n.me
    → new ≡ with_table name s.home old
    → out ≡ n.outbox ++ letter_pieces old.me name s.posts
    → opened ≡ s.opened
    → last ≡ if_served at name opened (record n { homes = new.homes; outbox = out })
    → last ≡ acted at (after_serve name s n)
served_law at name n h s old new out opened last there same_homes is_me new_is out_is opened_is last_is =
    let put_is : new.homes ≡ put (name.serial - 1) (Some s.home) n.homes = rw new_is (rw same_homes refl) in
    last_is ∙ served_if at name n s new.homes out old.me opened opened_is is_me put_is out_is (put_table name s.home old new (rw same_homes (home_is_some n name h there)) new_is)

-- the step of the table is that of the node's region
same_step : (name : Name) (n : Node) (h : Home) (old : HomesState) (step : ℕ → Home → HomeStep) → home_of n name ≡ Some h → old.homes ≡ n.homes → old.me ≡ n.me
    → step old.me (table_at name old.homes) ≡ step n.me h
same_step name n h old step there same_homes is_me =
    ap (λ me. step me (table_at name old.homes)) is_me ∙ (ap (λ homes. step n.me (table_at name homes)) same_homes ∙ ap (step n.me) (home_is_table n name h there))

pub ask_law : (at from : ℕ) (name : Name) (write : Bool) (have : ℕ) (n : Node) (h : Home) (old new : HomesState) (out : List Piece) (opened : Bool) (last : Node)
    → home_of n name ≡ Some h → is_queued_in from n.homes ≡ false → old.homes ≡ n.homes → old.me ≡ n.me
    → new ≡ with_table name (ask_step name (record { node = from; write = write; have = have }) old).home old
    → out ≡ n.outbox ++ letter_pieces old.me name (ask_step name (record { node = from; write = write; have = have }) old).posts
    → opened ≡ (ask_step name (record { node = from; write = write; have = have }) old).opened
    → last ≡ if_served at name opened (record n { homes = new.homes; outbox = out })
    → last ≡ acted at (node_handles from (kind.Ask name write have) n)
unfolding node_handles
ask_law at from name write have n h old new out opened last there none same_homes is_me new_is out_is opened_is last_is =
    let asked : Asked = record { node = from; write = write; have = have } in
    rw there (rw none (served_law at name n h (ask_step name asked old) old new out opened last there same_homes is_me new_is out_is opened_is last_is
    ∙ ap (λ s. acted at (after_serve name s n)) (same_step name n h old (λ me. home_takes_ask me asked) there same_homes is_me)))

pub return_law : (at from : ℕ) (name : Name) (version : ℕ) (bytes : Option (List ℕ)) (n : Node) (h : Home) (old new : HomesState) (out : List Piece) (opened : Bool) (last : Node)
    → home_of n name ≡ Some h → return_fits from version bytes h ≡ true → old.homes ≡ n.homes → old.me ≡ n.me
    → new ≡ with_table name (return_step name from bytes old).home old
    → out ≡ n.outbox ++ letter_pieces old.me name (return_step name from bytes old).posts
    → opened ≡ (return_step name from bytes old).opened
    → last ≡ if_served at name opened (record n { homes = new.homes; outbox = out })
    → last ≡ acted at (node_handles from (kind.Return name version bytes) n)
unfolding node_handles
return_law at from name version bytes n h old new out opened last there fits same_homes is_me new_is out_is opened_is last_is =
    rw there (rw fits (served_law at name n h (return_step name from bytes old) old new out opened last there same_homes is_me new_is out_is opened_is last_is
    ∙ ap (λ s. acted at (after_serve name s n)) (same_step name n h old (λ me. home_takes_return me from bytes) there same_homes is_me)))

pub release_law : (at from : ℕ) (name : Name) (version : ℕ) (bytes : List ℕ) (n : Node) (h : Home) (old new : HomesState) (out : List Piece) (opened : Bool) (last : Node)
    → home_of n name ≡ Some h → release_fits bytes h ≡ true → old.homes ≡ n.homes → old.me ≡ n.me
    → new ≡ with_table name (release_step name from version bytes old).home old
    → out ≡ n.outbox ++ letter_pieces old.me name (release_step name from version bytes old).posts
    → opened ≡ (release_step name from version bytes old).opened
    → last ≡ if_served at name opened (record n { homes = new.homes; outbox = out })
    → last ≡ acted at (node_handles from (kind.Release name version bytes) n)
unfolding node_handles
release_law at from name version bytes n h old new out opened last there fits same_homes is_me new_is out_is opened_is last_is =
    rw there (rw fits (served_law at name n h (release_step name from version bytes old) old new out opened last there same_homes is_me new_is out_is opened_is last_is
    ∙ ap (λ s. acted at (after_serve name s n)) (same_step name n h old (λ me. home_takes_release me from version bytes) there same_homes is_me)))
