-- What a node has of a region: one entry at most, and none while it waits for a map of it.
use Rattle.std.proofs.Common.{◌≡◌, ◌+◌, ◌-◌, ◌≤◌, true, false, None, Some, Option, List, if◌then◌else◌, refl, ap, arith}
use Rattle.crl_model.specs.declared.name.Name.{Name}
use Rattle.crl_model.specs.Names.{name_eq, at_name}
use Rattle.crl_protocol.specs.Lifetimes.{Mapping, Cached, cache_without, cache_with, new_mapping}
use Rattle.crl_protocol.specs.Node.{Node, ForMap, Activity, Waiting, Ready, Mapped, Outcome, is_mine, home_of}
use Rattle.crl_protocol.specs.Calls.{size_of}
use Rattle.crl_deeds.specs.Deeds.{Cause, Copies, Lives, Rounds, home_opens, maps_more, maps_own, maps_cached, map_asks, map_comes, map_denied, unmaps_one, unmaps_own, unmaps_doomed, unmaps_keeping, unmaps_evicting, deletes_own, delete_asks, delete_comes, dooms, drops, warns, ends_own, comes_away}
use Rattle.crl_deeds.specs.Counts.{WaitsAway}
use Rattle.crl_deeds.specs.Tokens.{waits_map}
use Rattle.crl_deeds.proofs.Laws.{by_name, warned}
use Rattle.crl_lifetime.specs.Lifetime.{one_if}
use Rattle.crl_lifetime.proofs.Weights.{if_named}
use Rattle.crl_lifetime.proofs.Storing.{one, mapped_weight, stored_weight, entry_weight, named_self, named_other, stored_none, stored_out, stored_in}

-- None of its own is cached.
abbrev pub OneEach : Node → Type 0
OneEach n = (q : Name) → entry_weight one q n + waits_map q n.activity ≤ 1

abbrev pub NoneOwn : Node → Type 0
NoneOwn n = (q : Name) → is_mine n q ≡ true → stored_weight one q n.cache ≡ 0

none_else : (n : Node) (name : Name) (cache : List Cached) → is_mine n name ≡ false → ((q : Name) → stored_weight one q cache ≤ stored_weight one q n.cache + if_named name q 1) → NoneOwn n → (q : Name) → is_mine n q ≡ true → stored_weight one q cache ≡ 0
none_else n name cache other few h = by_name name (λ b q. is_mine n q ≡ true → stored_weight one q cache ≡ 0) (λ mine. cc) (λ q w mine. let a = few q in let z = h q mine in let y = named_other name q 1 w in omega arith)

pub own_lives : (n : Node) (cause : Cause) (o : Outcome) → Lives n cause o → NoneOwn n → NoneOwn o.node
own_lives n cause o (maps_cached name size e other c) h = none_else n name _ other (λ q. let a = stored_out one name size n.cache c q in omega arith) h
own_lives n cause o (unmaps_keeping name m e once other sound closed kept) h = none_else n name _ other (λ q. stored_in one q n.capacity (record { name = name; size = m.size }) n.cache) h
own_lives n cause o (unmaps_evicting name m old e once other sound closed kept) h = none_else n name _ other (λ q. stored_in one q n.capacity (record { name = name; size = m.size }) n.cache) h
own_lives n cause o (drops from name size e c) h = λ q mine. let a = stored_out one name size n.cache c q in let z = h q mine in omega arith
own_lives n cause o _ h = h

-- its entry of the name changes, and what it waits for
each_put : (n : Node) (name : Name) (k : Option Mapping) (cache : List Cached) (a : Activity) → mapped_weight one k + stored_weight one name cache + waits_map name a ≤ 1
    → ((q : Name) → name_eq name q ≡ false → stored_weight one q cache ≤ stored_weight one q n.cache) → ((q : Name) → name_eq name q ≡ false → waits_map q a ≤ waits_map q n.activity) → OneEach n
    → (q : Name) → mapped_weight one (at_name n.maps name k q) + stored_weight one q cache + waits_map q a ≤ 1
each_put n name k cache a here few calm h = by_name name (λ b q. mapped_weight one (if b then k else n.maps q) + stored_weight one q cache + waits_map q a ≤ 1) here (λ q other. let x = h q in let y = few q other in let z = calm q other in omega arith)

pub map_is : (n : Node) (name : Name) (k : Option Mapping) → n.maps name ≡ k → mapped_weight one (n.maps name) ≡ mapped_weight one k
map_is n name k e = ap (mapped_weight one) e

wait_none : (n : Node) (name : Name) → is_mine n name ≡ true → WaitsAway n.me n.activity → waits_map name n.activity ≡ 0
wait_none n name mine w = go n.activity w
  where
    go : (a : Activity) → WaitsAway n.me a → waits_map name a ≡ 0
    go (Waiting (ForMap p purged)) w = by_name p (λ b q. is_mine n q ≡ true → one_if b ≡ 0) (λ mine. cc) (λ q other mine. refl) name mine
    go _ w = refl

kept_each : (n : Node) (name : Name) (m : Mapping) → n.maps name ≡ Some m → OneEach n
    → (q : Name) → mapped_weight one (at_name n.maps name None q) + stored_weight one q (cache_with n.capacity (record { name = name; size = m.size }) n.cache).cache + waits_map q n.activity ≤ 1
kept_each n name m e h =
    each_put n name None _ n.activity
    (let a = h name in let b = map_is n name (Some m) e in let c = stored_in one name n.capacity (record { name = name; size = m.size }) n.cache in let k = named_self name 1 in omega arith)
    (λ q other. let c = stored_in one q n.capacity (record { name = name; size = m.size }) n.cache in let k = named_other name q 1 other in omega arith) (λ q other. omega arith) h

pub each_lives : (n : Node) (cause : Cause) (o : Outcome) → Lives n cause o → WaitsAway n.me n.activity → NoneOwn n → OneEach n → OneEach o.node
each_lives n cause o (maps_more name m e few mine other) w own h = each_put n name (Some (record m { count = m.count + 1 })) n.cache n.activity (let a = h name in let b = map_is n name _ e in omega arith) (λ q other. omega arith) (λ q other. omega arith) h
each_lives n cause o (maps_own name e mine live) w own h = each_put n name (Some (new_mapping (size_of (home_of n name)) false)) n.cache n.activity (let a = own name mine in let b = wait_none n name mine w in omega arith) (λ q other. omega arith) (λ q other. omega arith) h
each_lives n cause o (maps_cached name size e other c) w own h =
    each_put n name (Some (new_mapping size false)) (cache_without name n.cache) n.activity
    (let a = h name in let b = stored_out one name size n.cache c name in let k = named_self name 1 in let z = map_is n name None e in omega arith)
    (λ q other. let a = stored_out one name size n.cache c q in omega arith) (λ q other. omega arith) h
each_lives n cause o (map_asks name e other c real) w own h =
    by_name name (λ b q. mapped_weight one (n.maps q) + stored_weight one q n.cache + (if b then 1 else 0) ≤ 1) (let a = map_is n name None e in let b = stored_none one name n.cache c in omega arith) (λ q v. let a = h q in omega arith)
each_lives n cause o (map_comes from name purged size e) w own h =
    each_put n name (Some (new_mapping size purged)) n.cache (Ready (Mapped name size)) (let a = h name in let b : waits_map name n.activity ≡ if_named name name 1 = ap (waits_map name) e in let k = named_self name 1 in omega arith)
    (λ q other. omega arith) (λ q other. omega arith) h
each_lives n cause o (map_denied from name purged s why t d u e) w own h = λ q. let a = h q in omega arith
each_lives n cause o (unmaps_one name m e some more closed) w own h = each_put n name (Some (record m { count = m.count - 1 })) n.cache n.activity (let a = h name in let b = map_is n name _ e in omega arith) (λ q other. omega arith) (λ q other. omega arith) h
each_lives n cause o (unmaps_own name m e once mine closed) w own h = each_put n name None n.cache n.activity (let a = h name in omega arith) (λ q other. omega arith) (λ q other. omega arith) h
each_lives n cause o (unmaps_doomed name m e once other doomed closed) w own h = each_put n name None n.cache n.activity (let a = h name in omega arith) (λ q other. omega arith) (λ q other. omega arith) h
each_lives n cause o (unmaps_keeping name m e once other sound closed kept) w own h = kept_each n name m e h
each_lives n cause o (unmaps_evicting name m old e once other sound closed kept) w own h = kept_each n name m e h
each_lives n cause o (deletes_own name m ms mine live e) w own h = λ q. let a = h q in omega arith
each_lives n cause o (delete_asks name other real) w own h = λ q. let a = h q in omega arith
each_lives n cause o (delete_comes from name d e) w own h = λ q. let a = h q in omega arith
each_lives n cause o (dooms from name m e) w own h = each_put n name (Some (record m { doomed = true })) n.cache n.activity (let a = h name in let b = map_is n name _ e in omega arith) (λ q other. omega arith) (λ q other. omega arith) h
each_lives n cause o (drops from name size e c) w own h = λ q. let a = h q in let b = stored_out one name size n.cache c q in omega arith
each_lives n cause o (warns from name e c) w own h = λ q. let a = h q in let b = warned q name n.activity in omega arith
each_lives n cause o (ends_own from name mine e missing last) w own h = λ q. let a = h q in omega arith
each_lives n cause o _ w own h = h

pub each_copies : (n : Node) (cause : Cause) (o : Outcome) → Copies n cause o → OneEach n → OneEach o.node
each_copies n cause o (home_opens c write name h is e v x) k = λ q. let a = k q in omega arith
each_copies n cause o _ k = λ q. let a = k q in omega arith

pub each_rounds : (n : Node) (cause : Cause) (o : Outcome) → Rounds n cause o → OneEach n → OneEach o.node
each_rounds n cause o (comes_away part other fits) k = λ q. let a = k q in omega arith
each_rounds n cause o _ k = λ q. let a = k q in omega arith
