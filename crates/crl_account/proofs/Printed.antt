-- The text of a printable report is an account of its entries.
use Rattle.std.proofs.Common.{◌≡◌, ℕ, suc, true, List, [], ◌∷◌, ◌++◌, refl, sym, ap, subst, ◌∙◌, append_assoc, arith, inl, inr, Ok, Err}
use Rattle.std.specs.Prelude.{IfOk, Result}
use Rattle.std.specs.List.{All, AllByRecursion, flat_map}
use Rattle.std.proofs.lemmas.List.{append-nil}
use Rattle.std.proofs.lemmas.List.Concat.{flat_map-cons}
use Rattle.crl_model.specs.declared.entry.Entry.{Entry}
use Rattle.crl_model.specs.declared.blocked.Blocked.{Blocked}
use Rattle.crl_model.specs.declared.blocked.Blocked.TheVariants as blocks
use Rattle.crl_model.specs.declared.report.FinalRegion.{FinalRegion}
use Rattle.crl_model.specs.Reports.{Reported}
use Rattle.crl_account.specs.declared.line.Line.{Line}
use Rattle.crl_account.specs.declared.line.Line.TheVariants as lines
use Rattle.crl_account.specs.declared.line.Stage.TheVariants as stages
use Rattle.crl_account.specs.Text.{spaced, account_text, final_text, blocked_text, counts_text, report_text, IsPrintable}
use Rattle.crl_account.specs.Account.{lines_of, line_text, FitsEntry, FitsLine, IsPrintableLine, IsLine, IsLineOf, AreCounts, AreStuck, AreRegions, IsAccount, IsReadable}
use Rattle.crl_account.specs.Reports.{HasBytes, IsPrintableReport, region_line, stuck_line, FitsRegion, FitsBlocked, FitsReport}
use Rattle.crl_account.proofs.Plain.{avoids, plain_avoids, avoids-append, spaced_avoids, parts_word}
use Rattle.crl_account.proofs.Lines.{first_word, other_words, text_is, first_plain, others_plain}
use Rattle.crl_account.proofs.Feeds.{lines_some, written_lines}

-- the line without its line feed
abbrev pub body : Line → List ℕ
body line = first_word line ++ spaced (other_words line)

is_body : (line : Line) → IsPrintableLine line → FitsLine line → IsLine line (body line)
is_body line prints fits = record { text = sym (text_is line); printable = prints; fits = fits }

-- a line that was written is the first of the text
first_line : (line : Line) (behind : List ℕ) → FitsLine line → lines_of (line_text line ++ behind) ≡ body line ∷ lines_of behind
first_line line behind fits =
    let free : avoids 10 (body line) ≡ true = avoids-append 10 (first_word line) (spaced (other_words line)) (plain_avoids 10 (first_word line) (omega arith) (first_plain line fits)) (spaced_avoids (other_words line) (others_plain line fits)) in
    ap lines_of (ap (λ (t : List ℕ). t ++ behind) (text_is line) ∙ append_assoc (body line) (10 ∷ []) behind)
    ∙ lines_some (body line ++ 10 ∷ behind) (body line) behind (parts_word 10 (body line) behind free)

-- the same of a list of lines
next_line : {A : Type 0} (text : A → List ℕ) (a : A) (rest : List A) (line : Line) (behind : List ℕ) → text a ≡ line_text line → FitsLine line
    → lines_of (flat_map text (a ∷ rest) ++ behind) ≡ body line ∷ lines_of (flat_map text rest ++ behind)
next_line text a rest line behind is fits =
    ap lines_of (ap (λ (t : List ℕ). t ++ behind) (flat_map-cons text a rest) ∙ append_assoc (text a) (flat_map text rest) behind ∙ ap (λ (t : List ℕ). t ++ (flat_map text rest ++ behind)) is)
    ∙ first_line line (flat_map text rest ++ behind) fits

-- ---- the parts of a report, from the last on

counts_line : (events messages : ℕ) → FitsLine (lines.Counts events messages) → AreCounts (lines_of (counts_text events messages))
counts_line events messages fits =
    let line = lines.Counts events messages in
    let only : lines_of (counts_text events messages) ≡ body line ∷ [] = ap lines_of (sym (append-nil (counts_text events messages))) ∙ first_line line [] fits in
    subst AreCounts (sym only) (line, refl, is_body line tt fits)

counts_stuck : (ls : List (List ℕ)) → AreCounts ls → AreStuck ls
counts_stuck [] are = tt
counts_stuck (l ∷ ls) are = inr are

stuck_regions : (ls : List (List ℕ)) → AreStuck ls → AreRegions ls
stuck_regions [] are = tt
stuck_regions (l ∷ ls) are = inr are

stuck_text : (cause : Blocked) → blocked_text cause ≡ line_text (stuck_line cause)
stuck_text (blocks.Region node name holder) = refl
stuck_text (blocks.Round node round absent) = refl

is_stuck : (cause : Blocked) → FitsBlocked cause → IsLineOf stages.Stuck (body (stuck_line cause))
is_stuck (blocks.Region node name holder) fits = (lines.StuckSection node name holder, refl, is_body (lines.StuckSection node name holder) tt fits)
is_stuck (blocks.Round node round absent) fits = (lines.StuckRound node round absent, refl, is_body (lines.StuckRound node round absent) tt fits)

stuck_lines : (causes : List Blocked) (behind : List ℕ) → AllByRecursion FitsBlocked causes → AreCounts (lines_of behind) → AreStuck (lines_of (flat_map blocked_text causes ++ behind))
stuck_lines [] behind fit counts = counts_stuck (lines_of behind) counts
stuck_lines (cause ∷ causes) behind fit counts =
    subst AreStuck (sym (next_line blocked_text cause causes (stuck_line cause) behind (stuck_text cause) fit.0)) (inl (is_stuck cause fit.0, stuck_lines causes behind fit.1 counts))

region_lines : (regions : List FinalRegion) (behind : List ℕ) → AllByRecursion HasBytes regions → AllByRecursion FitsRegion regions → AreStuck (lines_of behind) → AreRegions (lines_of (flat_map final_text regions ++ behind))
region_lines [] behind have fit stuck = stuck_regions (lines_of behind) stuck
region_lines (region ∷ regions) behind have fit stuck =
    let is : IsLineOf stages.Regions (body (region_line region)) = (region_line region, refl, is_body (region_line region) have.0 fit.0) in
    subst AreRegions (sym (next_line final_text region regions (region_line region) behind refl fit.0)) (inl (is, region_lines regions behind have.1 fit.1 stuck))

-- ---- the report

each : {A : Type 0} (P : A → Type 0) (xs : List A) → All P xs → AllByRecursion P xs
each P [] all = tt
each P (x ∷ xs) all = (all 0 x (omega arith), each P xs (λ k d h. all (suc k) d (omega (arith, h))))

readable : (entries : List Entry) → AllByRecursion IsPrintable entries → AllByRecursion FitsEntry entries → AllByRecursion IsReadable entries
readable [] print fit = tt
readable (entry ∷ entries) print fit = ((print.0, fit.0), readable entries print.1 fit.1)

report_is_account : (report : Reported) → FitsReport report → IsPrintableReport report → IsAccount (lines_of (report_text report)) report.entries
report_is_account report fits prints =
    let counts = counts_line report.events report.messages fits.counts in
    let stuck = stuck_lines report.blocked (counts_text report.events report.messages) (each FitsBlocked report.blocked fits.blocked) counts in
    let behind = flat_map blocked_text report.blocked ++ counts_text report.events report.messages in
    let regions = region_lines report.regions behind prints.regions (each FitsRegion report.regions fits.regions) stuck in
    let account = account_text report.entries in
    let regions_text = flat_map final_text report.regions in
    let whole : report_text report ≡ account ++ (regions_text ++ behind) =
    append_assoc (account ++ regions_text) (flat_map blocked_text report.blocked) (counts_text report.events report.messages) ∙ append_assoc account regions_text behind in
    subst (λ (t : List ℕ). IsAccount (lines_of t) report.entries) (sym whole)
    (written_lines report.entries (regions_text ++ behind) (readable report.entries prints.entries (each FitsEntry report.entries fits.entries)) regions)

-- a text that is the report's is an account
pub text_is_account : {A E : Type 0} (r : Result A E) (items : A → List ℕ) (report : Reported) → FitsReport report → IfOk r (λ t. items t ≡ report_text report)
    → IfOk r (λ t. IsPrintableReport report → IsAccount (lines_of (items t)) report.entries)
text_is_account (Ok t) items report fits is = λ prints. subst (λ (text : List ℕ). IsAccount (lines_of text) report.entries) (sym is) (report_is_account report fits prints)
text_is_account (Err e) items report fits is = tt
