-- The line of a command is read as the command.
use Rattle.std.proofs.Common.{◌≡◌, ◌+◌, ◌&&◌, not, ℕ, ◌<◌, ◌≤◌, true, false, List, [], ◌∷◌, ◌++◌, length, filter, codes, nat_eq, Ok, refl, sym, ap, ◌∙◌, arith}
use Rattle.std.proofs.lemmas.Bool.Decides.{nat_tests}
use Rattle.std.proofs.lemmas.List.Elements.{All-from_recursion}
use Rattle.std.specs.List.{AllByRecursion, starts_with}
use Rattle.uug_talk.proofs.ModeLemmas.{mode_read-of}
use Rattle.uug_talk.specs.Mode.{IsOctalDigit, IsModeWord, mode_digits, mode_of, mode_read}
use Rattle.uug_talk.specs.Words.{is_space, is_word, words}
use Rattle.uug_talk.specs.declared.mode.TheConstants.{MODE_MAX}
use Rattle.uug_taylor_text.proofs.SpacedLemmas.{spaced_words, words_behind}
use Rattle.uug_taylor_text.specs.CommandLines.{FieldWords, FileWords, Line, send, request, expand, execute, command_of, command_of_words, execute_of, fields_read, file_read, has_option, is_blank, is_named, notify_of, send_of}
use Rattle.uug_taylor_text.specs.CommandTexts.{AreFields, HasNoSpace, IsFile, IsLine, IsRun, IsWordOfLine, copy_words, field_words, line_of, notify_field}
use Rattle.uug_taylor_text.specs.ExecutionTexts.{spaced}
use Rattle.uug_taylor_text.specs.Quoting.{is_well_quoted}
use Rattle.uug_taylor_text.specs.SpoolNames.{is_data_name}

-- ---- modes

IsModeWord-digits : (mode : ℕ) → IsModeWord (mode_digits mode)
IsModeWord-digits mode = record {
  some = omega arith;
  short = omega arith;
  digits = All-from_recursion IsOctalDigit (mode_digits mode)
      ((omega arith, omega arith), ((omega arith, omega arith), ((omega arith, omega arith), ((omega arith, omega arith), tt))));
}

digits_say : (mode : ℕ) → mode ≤ MODE_MAX → mode_of (mode_digits mode) ≡ mode
digits_say mode h = omega (arith, h)

mode_back : (mode : ℕ) → mode ≤ MODE_MAX → mode_read (mode_digits mode) ≡ Ok mode
mode_back mode h = mode_read-of (mode_digits mode) (IsModeWord-digits mode) ∙ ap Ok (digits_say mode h)

-- ---- what is read of the words

fields_back : (f : FieldWords) → AreFields f → fields_read f.source f.target f.user f.options ≡ Ok f
fields_back f h = rw (h.dash, h.source.named, h.target.named, h.user.named) refl

not_blank : (options word : List ℕ) → is_named options word ≡ true → is_blank word ≡ false
not_blank options word h = grind (arith, nat_tests, h)

well_quoted : (options word : List ℕ) → is_named options word ≡ true → (has_option 113 options && not (is_well_quoted word)) ≡ false
well_quoted options word h = grind (arith, nat_tests, h)

file_back : (options : List ℕ) (w : FileWords) → IsFile options w → file_read options w.temp (mode_digits w.mode) w.notify ≡ Ok w
file_back options w h = rw (h.temp, mode_back w.mode h.mode, well_quoted options w.notify h.named) refl

notify_back : (options notify : List ℕ) → is_named options notify ≡ true → notify_of notify ≡ notify
notify_back options notify h = rw (not_blank options notify h) refl

field_back : (options notify : List ℕ) → is_named options notify ≡ true → notify_of (notify_field notify) ≡ notify
field_back options [] h = refl
field_back options (b ∷ bs) h = notify_back options (b ∷ bs) h

send_back : (f : FieldWords) (w : FileWords) → AreFields f → IsFile f.options w
    → send_of (f.source ∷ f.target ∷ f.user ∷ f.options ∷ w.temp ∷ mode_digits w.mode ∷ w.notify ∷ []) ≡ Ok (send f w)
send_back f w hf hw = rw (fields_back f hf, notify_back f.options w.notify hw.named, file_back f.options w hw) refl

-- the field of NOTIFY may lack where it is empty
send_back_short : (f : FieldWords) (w : FileWords) → AreFields f → IsFile f.options w → w.notify ≡ []
    → send_of (f.source ∷ f.target ∷ f.user ∷ f.options ∷ w.temp ∷ mode_digits w.mode ∷ []) ≡ Ok (send f w)
send_back_short f w hf hw e =
    let file : file_read f.options w.temp (mode_digits w.mode) [] ≡ Ok w = ap (file_read f.options w.temp (mode_digits w.mode)) (sym e) ∙ file_back f.options w hw in
    rw (fields_back f hf, file) refl

execute_back : (f : FieldWords) (w : FileWords) (first : List ℕ) (more : List (List ℕ)) → AreFields f → IsFile f.options w
    → execute_of (f.source ∷ f.target ∷ f.user ∷ f.options ∷ w.temp ∷ mode_digits w.mode ∷ notify_field w.notify ∷ (48 ∷ []) ∷ first ∷ more)
    ≡ Ok (execute f w (first ∷ more))
execute_back f w first more hf hw =
    rw (fields_back f hf, field_back f.options w.notify hw.named, file_back f.options w hw) refl

-- ---- the words of a line

-- behind a letter
words_of_letter : (letter : ℕ) (ws : List (List ℕ)) → is_space letter ≡ false → 0 < length ws → AllByRecursion HasNoSpace ws
    → words (letter ∷ spaced ws) ≡ (letter ∷ []) ∷ filter is_word ws
words_of_letter letter [] h some solid = absurd (omega (arith, some))
words_of_letter letter (v ∷ vs) h some solid =
    words_behind (letter ∷ []) (v ++ spaced vs) (All-from_recursion (λ b. is_space b ≡ false) (letter ∷ []) (h, tt))
    ∙ ap (λ ws. (letter ∷ []) ∷ ws) (spaced_words (v ∷ vs) solid)

pub word_passes : (w : List ℕ) (ws : List (List ℕ)) → 0 < length w → filter is_word (w ∷ ws) ≡ w ∷ filter is_word ws
word_passes [] ws h = absurd (omega (arith, h))
word_passes (b ∷ bs) ws h = refl

all_pass : (ws : List (List ℕ)) → AllByRecursion (λ (w : List ℕ). 0 < length w) ws → (more : List (List ℕ))
    → filter is_word (ws ++ more) ≡ ws ++ filter is_word more
all_pass [] h more = refl
all_pass (w ∷ ws) h more = word_passes w (ws ++ more) h.0 ∙ ap (λ r. w ∷ r) (all_pass ws h.1 more)

digit_is_solid : (n : ℕ) → is_space (48 + n) ≡ false
digit_is_solid n = grind (arith, nat_tests)

mode_is_solid : (mode : ℕ) → HasNoSpace (mode_digits mode)
mode_is_solid mode = All-from_recursion (λ b. is_space b ≡ false) (mode_digits mode)
    (digit_is_solid _, (digit_is_solid _, (digit_is_solid _, (digit_is_solid _, tt))))

dash_is_some : (options : List ℕ) → starts_with nat_eq options (codes "-") ≡ true → 0 < length options
dash_is_some [] h = absurd cc
dash_is_some (b ∷ bs) h = omega arith

name_is_some : (name : List ℕ) → is_data_name name ≡ true → 0 < length name
name_is_some [] h = absurd cc
name_is_some (b ∷ bs) h = omega arith

fields_are_some : (f : FieldWords) → AreFields f → AllByRecursion (λ (w : List ℕ). 0 < length w) (field_words f)
fields_are_some f h = (h.source.some, (h.target.some, (h.user.some, (dash_is_some f.options h.dash, tt))))

request_words : (letter : ℕ) (f : FieldWords) → is_space letter ≡ false → AreFields f
    → words (letter ∷ spaced (field_words f)) ≡ (letter ∷ []) ∷ field_words f
request_words letter f l h =
    words_of_letter letter (field_words f) l (omega arith) (h.source.solid, (h.target.solid, (h.user.solid, (h.solid, tt))))
    ∙ ap (λ ws. (letter ∷ []) ∷ ws) (all_pass (field_words f) (fields_are_some f h) [])

-- the words of fields and a copy, and then these
sent_words : (letter : ℕ) (f : FieldWords) (w : FileWords) (more : List (List ℕ)) → is_space letter ≡ false → AreFields f → IsFile f.options w
    → AllByRecursion HasNoSpace more
    → words (letter ∷ spaced (field_words f ++ copy_words w ++ more))
    ≡ (letter ∷ []) ∷ field_words f ++ copy_words w ++ filter is_word more
sent_words letter f w more l hf hw solid =
    words_of_letter letter (field_words f ++ copy_words w ++ more) l (omega arith)
    (hf.source.solid, (hf.target.solid, (hf.user.solid, (hf.solid, (hw.solid, (mode_is_solid w.mode, solid))))))
    ∙ ap (λ ws. (letter ∷ []) ∷ ws)
    (all_pass (field_words f) (fields_are_some f hf) (copy_words w ++ more)
    ∙ ap (λ ws. field_words f ++ ws) (all_pass (copy_words w) (name_is_some w.temp hw.temp, (omega arith, tt)) more))

-- ---- a line

send_read : (f : FieldWords) (w : FileWords) (notify : List ℕ) → w.notify ≡ notify → AreFields f → IsFile f.options w → command_of (line_of (send f w)) ≡ Ok (send f w)
send_read f w [] e hf hw =
    ap command_of_words (sent_words 83 f w (w.notify ∷ []) refl hf hw (hw.notify, tt) ∙ ap (λ n. (83 ∷ []) ∷ field_words f ++ copy_words w ++ filter is_word (n ∷ [])) e)
    ∙ send_back_short f w hf hw e
send_read f w (b ∷ bs) e hf hw =
    ap command_of_words (sent_words 83 f w (w.notify ∷ []) refl hf hw (hw.notify, tt)
    ∙ ap (λ n. (83 ∷ []) ∷ field_words f ++ copy_words w ++ n) (word_passes w.notify [] (rw e (omega arith))))
    ∙ send_back f w hf hw

field_is_solid : (notify : List ℕ) → HasNoSpace notify → HasNoSpace (notify_field notify)
field_is_solid [] h = All-from_recursion (λ b. is_space b ≡ false) (34 ∷ 34 ∷ []) (refl, (refl, tt))
field_is_solid (b ∷ bs) h = h

field_is_some : (notify : List ℕ) → 0 < length (notify_field notify)
field_is_some [] = omega arith
field_is_some (b ∷ bs) = omega arith

are_solid : (ws : List (List ℕ)) → AllByRecursion IsWordOfLine ws → AllByRecursion HasNoSpace ws
are_solid [] h = tt
are_solid (w ∷ ws) h = (h.0.1, are_solid ws h.1)

are_some : (ws : List (List ℕ)) → AllByRecursion IsWordOfLine ws → AllByRecursion (λ (w : List ℕ). 0 < length w) ws
are_some [] h = tt
are_some (w ∷ ws) h = (h.0.0, are_some ws h.1)

pass_alone : (ws : List (List ℕ)) → AllByRecursion (λ (w : List ℕ). 0 < length w) ws → filter is_word ws ≡ ws
pass_alone [] h = refl
pass_alone (w ∷ ws) h = word_passes w ws h.0 ∙ ap (λ r. w ∷ r) (pass_alone ws h.1)

execute_read : (f : FieldWords) (w : FileWords) (command : List (List ℕ)) → AreFields f → IsFile f.options w → IsRun command
    → command_of (line_of (execute f w command)) ≡ Ok (execute f w command)
execute_read f w [] hf hw hc = absurd (omega (arith, hc.some))
execute_read f w (first ∷ more) hf hw hc =
    ap command_of_words (sent_words 69 f w (notify_field w.notify ∷ (48 ∷ []) ∷ first ∷ more) refl hf hw
    (field_is_solid w.notify hw.notify, (All-from_recursion (λ b. is_space b ≡ false) (48 ∷ []) (refl, tt), are_solid (first ∷ more) hc.words))
    ∙ ap (λ ws. (69 ∷ []) ∷ field_words f ++ copy_words w ++ ws)
    (pass_alone (notify_field w.notify ∷ (48 ∷ []) ∷ first ∷ more) (field_is_some w.notify, (omega arith, are_some (first ∷ more) hc.words))))
    ∙ execute_back f w first more hf hw

pub written_is_read : (line : Line) → IsLine line → command_of (line_of line) ≡ Ok line
written_is_read (send f w) h = send_read f w w.notify refl h.0 h.1
written_is_read (request f) h = ap command_of_words (request_words 82 f refl h) ∙ rw (fields_back f h) refl
written_is_read (expand f) h = ap command_of_words (request_words 88 f refl h) ∙ rw (fields_back f h) refl
written_is_read (execute f w command) h = execute_read f w command h.0 h.1 h.2
