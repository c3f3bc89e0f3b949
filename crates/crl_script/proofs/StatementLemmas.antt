-- The words of a statement are read as the statement.
use Rattle.std.proofs.Common.{◌≡◌, ℕ, ◌<◌, ◌^◌, false, List, [], ◌∷◌, Some, None, Ok, refl, ◌∙◌, arith}
use Rattle.std.specs.Prelude.{codes, decimal}
use Rattle.std.specs.Fmt.{signed_decimal}
use Rattle.std.specs.Str.{bytes_eq}
use Rattle.hex.specs.Hex.{encode_lower}
use Rattle.crl_model.specs.declared.name.Name.{Name}
use Rattle.crl_model.specs.declared.call.Call as calls
use Rattle.crl_model.specs.declared.call.Call.TheVariants as call
use Rattle.crl_model.specs.declared.call.CallKind.{CallKind}
use Rattle.crl_model.specs.declared.call.CallKind.TheVariants as kind
use Rattle.crl_model.specs.declared.collective.Part.{Part}
use Rattle.crl_model.specs.declared.collective.Part.TheVariants.{Barrier, Send, Receive, Sum, Min, Max}
use Rattle.crl_script.specs.declared.fault.ScriptWhy.TheVariants.{BadNumber, BadSize}
use Rattle.crl_script.specs.declared.place.Place.TheVariants.{Inside}
use Rattle.crl_model.specs.declared.statement.Statement.TheVariants.{Call, Put, Add}
use Rattle.crl_script.specs.Again.{IsPart, IsSomeBytes}
use Rattle.crl_script.specs.Canonical.{label_of, label_text, part_words}
use Rattle.crl_script.specs.Labels.{Names}
use Rattle.crl_script.specs.Progress.{Progress, words_line, line_at, statement_line, other_line, create_line, with_statement, with_region}
use Rattle.crl_script.specs.Statements.{statement_of, kind_of, one_of, about_of, call_of, region_of, three_of, put_of, add_of, alone_of}
use Rattle.crl_script.specs.Text.{is_comment}
use Rattle.crl_script.proofs.NumberLemmas.{number_again, value_again, bytes_again, label_is_label}

-- the name that a label is read as, where its labels are known by other names
pub record Reads (names : Names) (name other : Name) : Type 0 where
  pub home : name.home < 64
  pub serial : name.serial < 2 ^ 64
  pub known : names (label_of name) ≡ Some other

region_again : (known : Names) (name other : Name) → Reads known name other → region_of known (label_of name) ≡ Ok other
unfolding region_of
region_again known name other r =
    let label = label_is_label name.home name.serial r.home r.serial in
    rw (label, r.known) refl

-- a line inside a block that doesn't begin with `node`
pub inside_line : (known : Names) (p : Progress) (node : ℕ) (w : List ℕ) (ws : List (List ℕ)) → p.place ≡ Inside node
    → is_comment w ≡ false → bytes_eq w (codes "node") ≡ false → words_line known p (w ∷ ws) ≡ statement_line known p node w ws
unfolding line_at
inside_line known p node w ws place comment other = rw (comment, place, other) refl

about_again : (known : Names) (p : Progress) (node : ℕ) (k : CallKind) (name other : Name) (c : calls.Call) → Reads known name other
    → one_of known k (label_of name) ≡ about_of known k (label_of name) → call_of k other ≡ Ok c
    → other_line known p node (Some k) (label_of name ∷ []) ≡ Ok (with_statement node (Call c) p)
unfolding other_line statement_of about_of
about_again known p node k name other c r same e =
    rw (same, region_again known name other r, e) refl

-- what a node brings to a round
pub part_again : (known : Names) (p : Progress) (node made : ℕ) (part : Part) → p.place ≡ Inside node → IsPart part
    → words_line known p (part_words part) ≡ Ok (with_statement node (Call (call.Come part)) p)
unfolding statement_line other_line statement_of kind_of alone_of one_of
part_again known p node made Barrier place h = inside_line known p node (codes "barrier") [] place refl refl
part_again known p node made (Send bytes) place h =
    inside_line known p node (codes "send") (encode_lower bytes ∷ []) place refl refl ∙ rw (bytes_again bytes h.0 h.1) refl
part_again known p node made Receive place h = inside_line known p node (codes "receive") [] place refl refl
part_again known p node made (Sum value) place h =
    inside_line known p node (codes "sum") (signed_decimal value ∷ []) place refl refl ∙ rw (value_again value h) refl
part_again known p node made (Min value) place h =
    inside_line known p node (codes "min") (signed_decimal value ∷ []) place refl refl ∙ rw (value_again value h) refl
part_again known p node made (Max value) place h =
    inside_line known p node (codes "max") (signed_decimal value ∷ []) place refl refl ∙ rw (value_again value h) refl

-- calls about a region
pub delete_again : (known : Names) (p : Progress) (node : ℕ) (name other : Name) → p.place ≡ Inside node → Reads known name other
    → words_line known p (codes "delete" ∷ label_of name ∷ []) ≡ Ok (with_statement node (Call (call.Delete other)) p)
unfolding statement_line kind_of one_of call_of
delete_again known p node name other place r =
    inside_line known p node (codes "delete") (label_of name ∷ []) place refl refl
    ∙ about_again known p node kind.Delete name other (call.Delete other) r refl refl

pub map_again : (known : Names) (p : Progress) (node : ℕ) (name other : Name) → p.place ≡ Inside node → Reads known name other
    → words_line known p (codes "map" ∷ label_of name ∷ []) ≡ Ok (with_statement node (Call (call.Map other)) p)
unfolding statement_line kind_of one_of call_of
map_again known p node name other place r =
    inside_line known p node (codes "map") (label_of name ∷ []) place refl refl
    ∙ about_again known p node kind.Map name other (call.Map other) r refl refl

pub unmap_again : (known : Names) (p : Progress) (node : ℕ) (name other : Name) → p.place ≡ Inside node → Reads known name other
    → words_line known p (codes "unmap" ∷ label_of name ∷ []) ≡ Ok (with_statement node (Call (call.Unmap other)) p)
unfolding statement_line kind_of one_of call_of
unmap_again known p node name other place r =
    inside_line known p node (codes "unmap") (label_of name ∷ []) place refl refl
    ∙ about_again known p node kind.Unmap name other (call.Unmap other) r refl refl

pub flush_again : (known : Names) (p : Progress) (node : ℕ) (name other : Name) → p.place ≡ Inside node → Reads known name other
    → words_line known p (codes "flush" ∷ label_of name ∷ []) ≡ Ok (with_statement node (Call (call.Flush other)) p)
unfolding statement_line kind_of one_of call_of
flush_again known p node name other place r =
    inside_line known p node (codes "flush") (label_of name ∷ []) place refl refl
    ∙ about_again known p node kind.Flush name other (call.Flush other) r refl refl

pub read_again : (known : Names) (p : Progress) (node : ℕ) (name other : Name) → p.place ≡ Inside node → Reads known name other
    → words_line known p (codes "read" ∷ label_of name ∷ []) ≡ Ok (with_statement node (Call (call.StartRead other)) p)
unfolding statement_line kind_of one_of call_of
read_again known p node name other place r =
    inside_line known p node (codes "read") (label_of name ∷ []) place refl refl
    ∙ about_again known p node kind.Read name other (call.StartRead other) r refl refl

pub endread_again : (known : Names) (p : Progress) (node : ℕ) (name other : Name) → p.place ≡ Inside node → Reads known name other
    → words_line known p (codes "endread" ∷ label_of name ∷ []) ≡ Ok (with_statement node (Call (call.EndRead other)) p)
unfolding statement_line kind_of one_of call_of
endread_again known p node name other place r =
    inside_line known p node (codes "endread") (label_of name ∷ []) place refl refl
    ∙ about_again known p node kind.EndRead name other (call.EndRead other) r refl refl

pub write_again : (known : Names) (p : Progress) (node : ℕ) (name other : Name) → p.place ≡ Inside node → Reads known name other
    → words_line known p (codes "write" ∷ label_of name ∷ []) ≡ Ok (with_statement node (Call (call.StartWrite other)) p)
unfolding statement_line kind_of one_of call_of
write_again known p node name other place r =
    inside_line known p node (codes "write") (label_of name ∷ []) place refl refl
    ∙ about_again known p node kind.Write name other (call.StartWrite other) r refl refl

pub endwrite_again : (known : Names) (p : Progress) (node : ℕ) (name other : Name) → p.place ≡ Inside node → Reads known name other
    → words_line known p (codes "endwrite" ∷ label_of name ∷ []) ≡ Ok (with_statement node (Call (call.EndWrite other [])) p)
unfolding statement_line kind_of one_of call_of
endwrite_again known p node name other place r =
    inside_line known p node (codes "endwrite") (label_of name ∷ []) place refl refl
    ∙ about_again known p node kind.EndWrite name other (call.EndWrite other []) r refl refl

pub put_again : (known : Names) (p : Progress) (node : ℕ) (name other : Name) (offset : ℕ) (bytes : List ℕ) → p.place ≡ Inside node → Reads known name other
    → offset < 2 ^ 32 → IsSomeBytes bytes
    → words_line known p (codes "put" ∷ label_of name ∷ decimal offset ∷ encode_lower bytes ∷ []) ≡ Ok (with_statement node (Put other offset bytes) p)
unfolding statement_line kind_of other_line statement_of three_of put_of
put_again known p node name other offset bytes place r h k =
    inside_line known p node (codes "put") (label_of name ∷ decimal offset ∷ encode_lower bytes ∷ []) place refl refl
    ∙ rw (region_again known name other r, number_again 4294967295 offset BadNumber (omega arith) (omega arith), bytes_again bytes k.0 k.1) refl

pub add_again : (known : Names) (p : Progress) (node : ℕ) (name other : Name) (offset number : ℕ) → p.place ≡ Inside node → Reads known name other
    → offset < 2 ^ 32 → number < 2 ^ 64
    → words_line known p (codes "add" ∷ label_of name ∷ decimal offset ∷ decimal number ∷ []) ≡ Ok (with_statement node (Add other offset number) p)
unfolding statement_line kind_of other_line statement_of three_of add_of
add_again known p node name other offset number place r h k =
    inside_line known p node (codes "add") (label_of name ∷ decimal offset ∷ decimal number ∷ []) place refl refl
    ∙ rw (region_again known name other r, number_again 4294967295 offset BadNumber (omega arith) (omega arith), number_again 18446744073709551615 number BadNumber (omega arith) k) refl

pub create_again : (known : Names) (p : Progress) (node serial size : ℕ) → p.place ≡ Inside node → node < 64 → serial < 2 ^ 64 → size < 2 ^ 32
    → p.names (label_text node serial) ≡ None
    → words_line known p (codes "create" ∷ label_text node serial ∷ decimal size ∷ []) ≡ Ok (with_region node (label_text node serial) size p)
unfolding statement_line create_line
create_again known p node serial size place h k small free =
    let label = label_is_label node serial h k in
    inside_line known p node (codes "create") (label_text node serial ∷ decimal size ∷ []) place refl refl
    ∙ rw (label, free, number_again 4294967295 size BadSize (omega arith) (omega arith)) refl
