-- What the calls that read the matches give.
use Rattle.std.proofs.Common.{◌≡◌, ◌≢◌, ◌∙◌, ◌⊎◌, ◌^◌, inl, inr, ap₂, is_some, ℕ, Bool, true, false, true≢false, List, [], ◌∷◌, length, Option, Some, None, Result, Ok, Err, ap, refl, sym, nat_lt, lt-ltb, ltb-true, codes}
use Rattle.std.proofs.lemmas.Slice.Eq.{bytes_eq-Decides}
use Rattle.std.specs.Borrow.{Bor}
use Rattle.std.specs.Char.{digit_value}
use Rattle.std.specs.List.{list_all}
use Rattle.std.specs.Option.{option_map, option_map_or, unwrap_or}
use Rattle.std.specs.Prelude.{find, option_and_then}
use Rattle.std.specs.Str.{bytes_eq}
use Rattle.std.specs.Str.Parse.{AllDigits, ParsesBool, ParsesUnsigned, digits_value, without_leading_plus}
use Rattle.clap.specs.Simple.{argument_words, built, entered, label_of, names_of, rows_at}
use Rattle.clap.specs.Walk.{answers_to, stop_after}
use Rattle.clap.specs.Words.{App, ReadsOne, Shape, Text, subcommand_name_of, subcommand_of, subcommand_rows_of}
use Rattle.clap.specs.declared.error.kind.ErrorKind.{ErrorKind}
use Rattle.clap.specs.declared.error.kind.ErrorKind.TheVariants.{DisplayVersion, OutOfMemory}
use Rattle.clap.specs.declared.parser.matches.ArgMatches.{ArgMatches}
use Rattle.clap.specs.declared.parser.matches.ArgMatches.TheViews.{out-ArgMatches}
use Rattle.clap.proofs.WalkLemmas.{both}
use Rattle.uug_cli.specs.Asked.{Asks, AsksIn, Entries, IsToolName, is_number, number_of}
use Rattle.uug_cli.specs.Tools.{uucpair}
use Rattle.uug_cli.specs.declared.command_line.Task.{Task}
use Rattle.uug_cli.specs.declared.command_line.Task.TheVariants.{Version, Scan, ScanVerbose, Play, PlayVerbose, PlaySettled, PlayDrawn, Pair, Call, Queue, Cancel, Status}

-- the text of an argument
pub text_read : (found : Option (Bor Text)) (empty : Bor Text) (text : Option Text) → option_map (λ s. s.now) found ≡ text → empty.now ≡ []
    → (unwrap_or found empty).now ≡ unwrap_or text []
text_read None empty text is none = none ∙ ap (λ (t : Option Text). unwrap_or t []) is
text_read (Some s) empty text is none = ap (λ (t : Option Text). unwrap_or t []) is

differs : (text word : Text) → text ≢ word → bytes_eq text word ≡ false
differs text word apart = go (bytes_eq text word) refl
  where
    go : (t : Bool) → bytes_eq text word ≡ t → bytes_eq text word ≡ false
    go true t = absurd (apart ((bytes_eq-Decides text word).0 t))
    go false t = t

module _ {E : Type 0} (gives : Text → Result Bool E → Type 0) (parses : (t : Text) (r : Result Bool E) → gives t r → ParsesBool t r) where
  flag_read : (text : Text) (read : Option Bool) → ReadsOne gives text read → unwrap_or read false ≡ bytes_eq text (codes "true")
  flag_read text (Some true) is = rw (parses text (Ok true) is) refl
  flag_read text (Some false) is = rw (parses text (Ok false) is) refl
  flag_read text None is = sym (differs text (codes "true") (parses text (Err is.0) is.1).0)

  -- an option that has no value
  pub given_read : (text : Option Text) (read : Option Bool) → (text ≡ None → read ≡ None)
      → ((t : Text) → text ≡ Some t → ReadsOne gives t read)
      → unwrap_or read false ≡ option_map_or (λ t. bytes_eq t (codes "true")) text false
  given_read None read none some = ap (λ (r : Option Bool). unwrap_or r false) (none refl)
  given_read (Some t) read none some = flag_read t read (some t refl)

-- ---- numbers

digits_pass : (ds : List ℕ) → AllDigits 10 ds → list_all (λ d. nat_lt (digit_value d) 10) ds ≡ true
digits_pass [] h = refl
digits_pass (d ∷ ds) h = rw (lt-ltb (digit_value d) 10 h.0) (digits_pass ds h.1)

digits_from : (ds : List ℕ) → list_all (λ d. nat_lt (digit_value d) 10) ds ≡ true → AllDigits 10 ds
digits_from [] e = tt
digits_from (d ∷ ds) e =
    let parts = both _ _ e in
    (ltb-true _ _ parts.0, digits_from ds parts.1)

module _ {E : Type 0} (gives : Text → Result ℕ E → Type 0) (parses : (t : Text) (r : Result ℕ E) → gives t r → ParsesUnsigned 32 10 t r) where
  number_read : (text : Text) (read : Option ℕ) → ReadsOne gives text read → read ≡ number_of text
  number_read text (Some n) is =
      let digits = without_leading_plus text in
      let h = parses text (Ok n) is in
      let some : is_number digits ≡ true =
      rw (lt-ltb 0 (length digits) h.0.0.0, digits_pass digits h.0.0.1, lt-ltb (digits_value 10 digits) (2 ^ 32) h.0.1) refl in
      rw some (ap Some h.1)
  number_read text None is = go (is_number (without_leading_plus text)) refl
    where
      go : (t : Bool) → is_number (without_leading_plus text) ≡ t → None ≡ number_of text
      go false t = rw t refl
      go true t =
          let outer = both _ _ t in
          let inner = both _ _ outer.1 in
          absurd (parses text (Err is.0) is.1 ((ltb-true _ _ outer.0, digits_from (without_leading_plus text) inner.0), ltb-true _ _ inner.1))

  -- an option with a number
  pub option_read : (text : Option Text) (read : Option ℕ) → (text ≡ None → read ≡ None)
      → ((t : Text) → text ≡ Some t → ReadsOne gives t read)
      → read ≡ option_and_then number_of text
  option_read None read none some = none refl
  option_read (Some t) read none some = number_read t read (some t refl)

-- ---- the words

abbrev pair_of : {X : Type 0} → (X → Text) → (X → Entries) → X → Text × Entries
pair_of name rows x = (name x, rows x)

parts_of : {X : Type 0} (name : X → Text) (rows : X → Entries) (found : Option X) (tool : Text) (entries : Entries) → Some tool ≡ option_map name found
    → Some entries ≡ option_map (λ (p : Text × Entries). p.1) (option_map (pair_of name rows) found) → option_map (pair_of name rows) found ≡ Some (tool, entries)
parts_of name rows None tool entries named has = absurd (true≢false (ap is_some named))
parts_of name rows (Some x) tool entries named has =
    let same_tool : name x ≡ tool = ap (λ (o : Option Text). unwrap_or o tool) (sym named) in
    let same_entries : rows x ≡ entries = ap (λ (o : Option Entries). unwrap_or o entries) (sym has) in
    ap₂ (λ (t : Text) (e : Entries). Some (pair_of (λ (y : Text × Entries). y.0) (λ (y : Text × Entries). y.1) (t, e))) same_tool same_entries

-- a subcommand that was met has its name and its rows
pub subcommand_met : (m : ArgMatches) (tool : Text) (entries : Entries) → Some tool ≡ subcommand_name_of m
    → Some entries ≡ option_map (λ (p : Text × Entries). p.1) (subcommand_rows_of m) → subcommand_rows_of m ≡ Some (tool, entries)
subcommand_met m tool entries named has = parts_of _ _ (out-ArgMatches m).subcommand tool entries named has

abbrev OneOf : Text → List Shape → Type 0
OneOf tool [] = ⊥
OneOf tool (s ∷ ss) = (tool ≡ s.name) ⊎ OneOf tool ss

found_in : (p : Shape → Bool) (words : List Text) (shapes : List Shape) (tool : Text) (entries : Entries)
    → option_map (λ s. rows_at s words) (find p shapes) ≡ Some (tool, entries) → OneOf tool shapes
found_in p words [] tool entries is = absurd (true≢false (sym (ap is_some is)))
found_in p words (s ∷ ss) tool entries is = go (p s) refl (found_in p words ss tool entries)
  where
    go : (t : Bool) → p s ≡ t → (option_map (λ x. rows_at x words) (find p ss) ≡ Some (tool, entries) → OneOf tool ss) → OneOf tool (s ∷ ss)
    go true t rest =
        let here : Some (rows_at s words) ≡ Some (tool, entries) = rw t at is in
        inl (sym (ap (λ (o : Option (Text × Entries)). (unwrap_or o (tool, entries)).0) here))
    go false t rest = inr (rest (rw t at is))

entered_one : (made : App) (stop : Option (Text × List Text)) (tool : Text) (entries : Entries) → entered made stop ≡ Some (tool, entries) → OneOf tool made.subs
entered_one made None tool entries is = absurd (true≢false (sym (ap is_some is)))
entered_one made (Some p) tool entries is = found_in (λ s. answers_to p.0 (label_of s)) p.1 made.subs tool entries is

-- a subcommand of ours has the name of a tool
pub is_tool_name : (words : List Text) (tool : Text) (entries : Entries) → subcommand_of uucpair words ≡ Some (tool, entries) → IsToolName tool
is_tool_name words tool entries is =
    let stop = stop_after (built uucpair).top.rules (names_of (built uucpair)) (argument_words uucpair words) in
    elim (entered_one (built uucpair) stop tool entries is) [
      | inl scan ↦ inl (inl scan)
      | inr (inl play) ↦ inr (inl play)
      | inr (inr (inl pair)) ↦ inr (inr (inl pair))
      | inr (inr (inr (inl call))) ↦ inr (inr (inr (inl call)))
      | inr (inr (inr (inr (inl answer)))) ↦ inr (inr (inr (inr (inl answer))))
      | inr (inr (inr (inr (inr (inl queue))))) ↦ inr (inr (inr (inr (inr (inl queue)))))
      | inr (inr (inr (inr (inr (inr (inl status)))))) ↦ inr (inr (inr (inr (inr (inr status)))))
      | inr (inr (inr (inr (inr (inr (inr (inl help))))))) ↦ inl (inr help)
      | inr (inr (inr (inr (inr (inr (inr (inr none))))))) ↦ absurd none
    ]

-- a tool that the words name asks for the task
pub asks_by : (words : List Text) (tool : Text) (entries : Entries) (task : Task) → subcommand_of uucpair words ≡ Some (tool, entries)
    → AsksIn tool entries task → Asks words task
asks_by words tool entries Version read asks = absurd asks
asks_by words tool entries (Scan file) read asks = record { tool = tool; entries = entries; read = read; asks = asks }
asks_by words tool entries (ScanVerbose file) read asks = record { tool = tool; entries = entries; read = read; asks = asks }
asks_by words tool entries (Play file) read asks = record { tool = tool; entries = entries; read = read; asks = asks }
asks_by words tool entries (PlayVerbose file) read asks = record { tool = tool; entries = entries; read = read; asks = asks }
asks_by words tool entries (PlaySettled file) read asks = record { tool = tool; entries = entries; read = read; asks = asks }
asks_by words tool entries (PlayDrawn file) read asks = record { tool = tool; entries = entries; read = read; asks = asks }
asks_by words tool entries (Pair pair) read asks = record { tool = tool; entries = entries; read = read; asks = asks }
asks_by words tool entries (Call call) read asks = record { tool = tool; entries = entries; read = read; asks = asks }
asks_by words tool entries (Queue queue) read asks = record { tool = tool; entries = entries; read = read; asks = asks }
asks_by words tool entries (Cancel cancel) read asks = record { tool = tool; entries = entries; read = read; asks = asks }
asks_by words tool entries (Status status) read asks = record { tool = tool; entries = entries; read = read; asks = asks }

-- words that a tool takes are refused only for want of memory
pub not_taken : (taken : Bool) (kind : ErrorKind) → (taken ≡ true → kind ≡ OutOfMemory) → kind ≡ DisplayVersion → taken ≡ false
not_taken false kind refused is = refl
not_taken true kind refused is =
    let bad : OutOfMemory ≡ DisplayVersion = sym (refused refl) ∙ is in
    cc
