-- A region keeps its size.
use Rattle.std.proofs.Common.{◌≡◌, ℕ, ◌==◌, List, [], ◌∷◌, ◌++◌, Bool, true, false, not, ◌&&◌, refl, if◌then◌else◌}
use Rattle.std.specs.declared.option.Option.{Option}
use Rattle.std.specs.declared.option.Option.TheVariants.{None, Some}
use Rattle.crl_model.specs.declared.directory.Asked.{Asked}
use Rattle.crl_model.specs.declared.directory.Section.TheVariants.{Closed}
use Rattle.crl_protocol.specs.Places.{at, put}
use Rattle.crl_protocol.specs.Home.{Home, HomeStep, serve, is_servable, with_marks, recalls_and_yields, open_own, grant_next, grant_for, posts_first, opens_own_section, home_starts, home_takes_ask, home_takes_return, home_takes_release, home_ends_read, home_ends_write, bytes_after, own_ask, is_reading, is_empty, is_to_lower, shared_listing, one_section_more, one_section_less}

abbrev waits : Home → Asked → List Asked → HomeStep
waits h a q = record { home = record h { listed = with_marks 0 h.listed a; queue = a ∷ q }; posts = recalls_and_yields 0 h.listed a; opened = false }

by_service : (me : ℕ) (h : Home) (a : Asked) (q : List Asked) (s o : Bool) → (serve me (open_own h a) q).home.size ≡ h.size → (serve me (grant_next h a) q).home.size ≡ h.size
    → (if s then (if o then opens_own_section (serve me (open_own h a) q) else posts_first (grant_for h a) (serve me (grant_next h a) q)) else waits h a q).home.size ≡ h.size
by_service me h a q true true i j = i
by_service me h a q true false i j = j
by_service me h a q false o i j = refl

serve_size : (me : ℕ) (h : Home) (q : List Asked) → (serve me h q).home.size ≡ h.size
serve_size me h [] = refl
serve_size me h (a ∷ q) = by_service me h a q (is_servable h a) (a.node == me) (serve_size me (open_own h a) q) (serve_size me (grant_next h a) q)

either : (a : Bool) (x y : HomeStep) (n : ℕ) → x.home.size ≡ n → y.home.size ≡ n → (if a then x else y).home.size ≡ n
either true x y n e f = e
either false x y n e f = f

pub ask_size : (me : ℕ) (a : Asked) (h : Home) → (home_takes_ask me a h).home.size ≡ h.size
unfolding home_takes_ask
ask_size me a h = serve_size me h (h.queue ++ a ∷ [])

pub return_size : (me n : ℕ) (bytes : Option (List ℕ)) (h : Home) → (home_takes_return me n bytes h).home.size ≡ h.size
unfolding home_takes_return
return_size me n bytes h = serve_size me (record h { bytes = bytes_after bytes h.bytes; listed = put n None h.listed }) h.queue

pub release_size : (me n version : ℕ) (bytes : List ℕ) (h : Home) → (home_takes_release me n version bytes h).home.size ≡ h.size
unfolding home_takes_release
release_size me n version bytes h =
    let lower : Home = record h { bytes = bytes; listed = put n (Some (shared_listing version)) h.listed } in
    either (is_to_lower version (at n h.listed)) (serve me lower h.queue) (record { home = h; posts = []; opened = false }) h.size (serve_size me lower h.queue) refl

pub start_size : (me : ℕ) (write : Bool) (h : Home) → (home_starts me write h).home.size ≡ h.size
unfolding home_starts
start_size me write h =
    let inside : HomeStep = record { home = record h { mine = one_section_more h.mine }; posts = []; opened = true } in
    let first : HomeStep = record { home = open_own h (own_ask me write); posts = []; opened = true } in
    let rest : HomeStep = serve me h (h.queue ++ own_ask me write ∷ []) in
    let now = is_empty h.queue && is_servable h (own_ask me write) in
    either (not write && is_reading h.mine) inside (if now then first else rest) h.size refl
    (either now first rest h.size refl (serve_size me h (h.queue ++ own_ask me write ∷ [])))

pub end_read_size : (me : ℕ) (h : Home) → (home_ends_read me h).home.size ≡ h.size
unfolding home_ends_read
end_read_size me h = serve_size me (record h { mine = one_section_less h.mine }) h.queue

pub end_write_size : (me : ℕ) (bytes : List ℕ) (h : Home) → (home_ends_write me bytes h).home.size ≡ h.size
unfolding home_ends_write
end_write_size me bytes h = serve_size me (record h { bytes = bytes; mine = Closed }) h.queue
