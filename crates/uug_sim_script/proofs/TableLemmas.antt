-- The function that reads a line and the table of lines agree.
use Rattle.std.proofs.Common.{◌≡◌, ℕ, ◌<◌, Bool, true, false, if◌then◌else◌, List, [], ◌∷◌, length, codes, nat_le, Option, Some, None, Result, Ok, Err, IsSome, refl, sym, ap, subst, ◌∙◌, arith}
use Rattle.std.proofs.lemmas.Bool.Decides.{nat_tests}
use Rattle.std.specs.Result.{result_err}
use Rattle.std.specs.Str.{bytes_eq}
use Rattle.uug_conversation.specs.Holdings.{kept_file}
use Rattle.uug_conversation.specs.declared.job.Job.TheVariants.{Send, Request}
use Rattle.uug_link.specs.Announced.{Announced}
use Rattle.uug_talk.specs.Name.{IsName, name_of}
use Rattle.uug_talk.specs.Words.{words}
use Rattle.uug_line.specs.declared.event.Event.TheVariants.{Pass, Drop, Flip, Insert, Timeout, HangUp, Call}
use Rattle.uug_sim_script.specs.declared.field.Field.{Field}
use Rattle.uug_sim_script.specs.declared.field.Field.TheVariants as fields
use Rattle.uug_sim_script.specs.declared.line.TheConstants.{BYTES_MAX, TURNS_MAX}
use Rattle.uug_talk.specs.declared.lines.TheConstants.{LINE_MAX}
use Rattle.uug_conversation.specs.declared.side.Side.{Side}
use Rattle.uug_conversation.specs.declared.side.Side.TheVariants.{Caller, Called}
use Rattle.uug_talk.specs.declared.call.TheConstants.{NUMBER_MAX}
use Rattle.uug_talk.specs.declared.gather.TheConstants.{FILE_LIMIT_MAX}
use Rattle.uug_talk.specs.Number.{number_of}
use Rattle.uug_session.specs.PhaseWords.{side_word}
use Rattle.uug_sim_script.specs.Complaints.{Wrong, too_long, field_at, read_or_wrong, ◌>>=◌}
use Rattle.uug_sim_script.specs.Fields.{side_of, window_of, announcement_of, mode_of_word, hex_bytes, byte_of, limit_of_word}
use Rattle.uug_talk.specs.Lines.{is_comment}
use Rattle.hex.specs.Hex.{decode_of}
use Rattle.uug_sim_script.specs.LineSays.{Announces, WritesNumber, WritesMode, WritesBytes, NamesCopy, LineSays, TextSays, blank, comment, end_line, file_line, send_line, request_line, deny_line, later_line, immovable_line, number_line, quiet_line, short_line, lenient_line, digest_line, resume_line, limit_line, pass_line, drop_line, flip_line, insert_line, timeout_line, hangup_line, call_line, flow_line}
use Rattle.uug_sim_script.specs.Meaning.{LineMeaning, nothing, of_end, event, flow, place, file, job, deny, later, immovable, number, quiet, short, lenient, digest, resume, limit}
use Rattle.uug_sim_script.specs.ReadLine.{side_at, name_at, window_at, announcement_at, mode_at, hex_at, limit_at, number_at, byte_at, copy_of, ends, place_of, file_of, send_of, request_of, side_and_name, side_and_number, side_and_byte, one_side, call_of, flow_of, limit_line_of, event_by, line_by, line_of_words, line_of}
use Rattle.uug_sim_script.proofs.WordTableLemmas.{limit_written, writes_limit, same_bytes, name_of_name, name_is, number_written, writes_number, window_written, announcement_written, announces, mode_written, writes_mode, bytes_written, writes_bytes, byte_written, writes_byte}

-- ---- what the table says is read

side_read : (side : Side) → side_of (side_word side) ≡ Some side
side_read Caller = refl
side_read Called = refl

copy_read : (more : List (List ℕ)) (temp : Option (List ℕ)) → NamesCopy more temp → copy_of more ≡ Ok temp
copy_read more None h = ap copy_of h
copy_read more (Some temp) h = ap copy_of h.1 ∙ rw (name_of_name temp h.0) refl

says_read : (ws : List (List ℕ)) (m : LineMeaning) → LineSays ws m → line_of_words ws ≡ Ok m
says_read ws m blank = refl
says_read ws m comment = refl
says_read ws m (end_line {side = Caller} {name = name} {window = window} {size = size} {a = a} n h) = rw (name_of_name name n, window_written window size a h, announcement_written window size a h) refl
says_read ws m (end_line {side = Called} {name = name} {window = window} {size = size} {a = a} n h) = rw (name_of_name name n, window_written window size a h, announcement_written window size a h) refl
says_read ws m (file_line {side = side} {name = name} {digits = digits} {hex = hex} {bytes = bytes} {mode = mode} n d b) =
    rw (side_read side, name_of_name name n, mode_written digits mode d, bytes_written hex bytes b) refl
says_read ws m (send_line {side = side} {source = source} {target = target} {user = user} {temp = temp} {more = more} h t) =
    rw (side_read side, name_of_name source h.0, name_of_name target h.1, name_of_name user h.2, copy_read more temp t) refl
says_read ws m (request_line {side = side} {source = source} {target = target} {user = user} h) =
    rw (side_read side, name_of_name source h.0, name_of_name target h.1, name_of_name user h.2) refl
says_read ws m (deny_line {side = side} {name = name} n) = rw (side_read side, name_of_name name n) refl
says_read ws m (later_line {side = side} {name = name} n) = rw (side_read side, name_of_name name n) refl
says_read ws m (immovable_line {side = side} {name = name} n) = rw (side_read side, name_of_name name n) refl
says_read ws m (number_line {side = side} {word = word} {n = n} h) = rw (side_read side, number_written NUMBER_MAX word n h) refl
says_read ws m (quiet_line {side = side}) = rw (side_read side) refl
says_read ws m (short_line {side = side}) = rw (side_read side) refl
says_read ws m (lenient_line {side = side}) = rw (side_read side) refl
says_read ws m (digest_line {side = side}) = rw (side_read side) refl
says_read ws m (resume_line {side = side}) = rw (side_read side) refl
says_read ws m (limit_line {side = side} {word = word} {n = n} h p) = rw (side_read side, limit_written word n h p) refl
says_read ws m (pass_line {side = side} {word = word} {n = n} h) = rw (side_read side, number_written BYTES_MAX word n h) refl
says_read ws m (drop_line {side = side} {word = word} {n = n} h) = rw (side_read side, number_written BYTES_MAX word n h) refl
says_read ws m (flip_line {side = side} {hex = hex} {byte = byte} h) = rw (side_read side, byte_written hex byte h) refl
says_read ws m (insert_line {side = side} {hex = hex} {byte = byte} h) = rw (side_read side, byte_written hex byte h) refl
says_read ws m (timeout_line {side = side}) = rw (side_read side) refl
says_read ws m (hangup_line {side = side}) = rw (side_read side) refl
says_read ws m call_line = refl
says_read ws m (flow_line {word = word} {n = n} h) = rw (number_written TURNS_MAX word n h) refl

pub text_says_read : (line : List ℕ) (m : LineMeaning) → TextSays line m → line_of line ≡ Ok m
text_says_read line m h =
    let fits : nat_le (length line) LINE_MAX ≡ true = grind (arith, nat_tests, h.within) in
    rw fits (says_read (words line) m h.said)

-- ---- what stands in front

pub bind_ok : {A B : Type 0} (r : Result A Wrong) (f : A → Result B Wrong) (y : B) → (r >>= f) ≡ Ok y → (x : A) × (r ≡ Ok x) × (f x ≡ Ok y)
bind_ok (Ok x) f y e = (x, refl, e)
bind_ok (Err w) f y e = absurd cc

-- a word that says so stands before these
record Leads (Says : List ℕ → Type 0) (more ws : List (List ℕ)) : Type 0 where
  word : List ℕ
  spelled : word ∷ more ≡ ws
  says : Says word

field_is : {A : Type 0} (field : Field) (read : List ℕ → Option A) (ws : List (List ℕ)) (p : A × List (List ℕ)) → field_at field read ws ≡ Ok p
    → Leads (λ word. read word ≡ Some p.0) p.1 ws
field_is field read [] p e = absurd cc
field_is {A = A} field read (word ∷ more) p e = by_read (read word) refl e where
  by_read : (o : Option A) → read word ≡ o → read_or_wrong field word more o ≡ Ok p → Leads (λ word. read word ≡ Some p.0) p.1 (word ∷ more)
  by_read None t f = absurd cc
  by_read (Some x) t f =
      let same : (x, more) ≡ p = cc in
      record {
        word = word;
        spelled = ap (λ (q : A × List (List ℕ)). word ∷ q.1) (sym same);
        says = t ∙ ap (λ (q : A × List (List ℕ)). Some q.0) same;
      }

-- what stands in front, put in place of the words that it is
front : (word : List ℕ) (a b c : List (List ℕ)) → a ≡ b → word ∷ b ≡ c → word ∷ a ≡ c
front word a b c e f = ap (λ more. word ∷ more) e ∙ f

side_is : (word : List ℕ) (side : Side) → side_of word ≡ Some side → side_word side ≡ word
side_is word side e = by_caller (bytes_eq word (codes "caller")) refl e where
  by_called : (b : Bool) → bytes_eq word (codes "called") ≡ b → (if b then Some Called else None) ≡ Some side → side_word side ≡ word
  by_called true t f = let same : Called ≡ side = cc in ap side_word (sym same) ∙ sym (same_bytes word (codes "called") t)
  by_called false t f = absurd cc

  by_caller : (b : Bool) → bytes_eq word (codes "caller") ≡ b
      → (if b then Some Caller else (if bytes_eq word (codes "called") then Some Called else None)) ≡ Some side → side_word side ≡ word
  by_caller true t f = let same : Caller ≡ side = cc in ap side_word (sym same) ∙ sym (same_bytes word (codes "caller") t)
  by_caller false t f = by_called (bytes_eq word (codes "called")) refl f

side_leads : (ws : List (List ℕ)) (p : Side × List (List ℕ)) → side_at ws ≡ Ok p → side_word p.0 ∷ p.1 ≡ ws
side_leads ws p e =
    let l = field_is fields.Side side_of ws p e in
    ap (λ word. word ∷ p.1) (side_is l.word p.0 l.says) ∙ l.spelled

name_leads : (ws : List (List ℕ)) (p : List ℕ × List (List ℕ)) → name_at ws ≡ Ok p → IsName p.0 × (p.0 ∷ p.1 ≡ ws)
name_leads ws p e =
    let l = field_is fields.Name name_of ws p e in
    let named = name_is l.word p.0 l.says in
    (named.0, ap (λ word. word ∷ p.1) (sym named.1) ∙ l.spelled)

mode_leads : (ws : List (List ℕ)) (p : ℕ × List (List ℕ)) → mode_at ws ≡ Ok p → Leads (λ word. WritesMode word p.0) p.1 ws
mode_leads ws p e =
    let l = field_is fields.Mode mode_of_word ws p e in
    record { word = l.word; spelled = l.spelled; says = writes_mode l.word p.0 l.says }

hex_leads : (ws : List (List ℕ)) (p : List ℕ × List (List ℕ)) → hex_at ws ≡ Ok p → Leads (λ word. WritesBytes word p.0) p.1 ws
hex_leads ws p e =
    let l = field_is fields.Bytes hex_bytes ws p e in
    record { word = l.word; spelled = l.spelled; says = writes_bytes l.word p.0 l.says }

number_leads : (field : Field) (most : ℕ) (ws : List (List ℕ)) (p : ℕ × List (List ℕ)) → number_at field most ws ≡ Ok p
    → Leads (λ word. WritesNumber most word p.0) p.1 ws
number_leads field most ws p e =
    let l = field_is field (number_of most) ws p e in
    record { word = l.word; spelled = l.spelled; says = writes_number most l.word p.0 l.says }

limit_leads : (ws : List (List ℕ)) (p : ℕ × List (List ℕ)) → limit_at ws ≡ Ok p
    → Leads (λ word. WritesNumber FILE_LIMIT_MAX word p.0 × (0 < p.0)) p.1 ws
limit_leads ws p e =
    let l = field_is fields.Limit limit_of_word ws p e in
    record { word = l.word; spelled = l.spelled; says = writes_limit l.word p.0 l.says }

byte_leads : (ws : List (List ℕ)) (p : ℕ × List (List ℕ)) → byte_at ws ≡ Ok p → Leads (λ word. decode_of word ≡ Ok (p.0 ∷ [])) p.1 ws
byte_leads ws p e =
    let l = field_is fields.Byte byte_of ws p e in
    record { word = l.word; spelled = l.spelled; says = writes_byte l.word p.0 l.says }

record AnnouncementLeads (a : Announced) (more ws : List (List ℕ)) : Type 0 where
  window : List ℕ
  size : List ℕ
  spelled : window ∷ size ∷ more ≡ ws
  says : Announces window size a

announcement_leads : (ws : List (List ℕ)) (p : Announced × List (List ℕ)) → announcement_at ws ≡ Ok p → AnnouncementLeads p.0 p.1 ws
announcement_leads ws p e =
    let w = bind_ok (window_at ws) _ p e in
    let l = field_is fields.Window window_of ws w.0 w.1 in
    let s = field_is fields.Size (announcement_of w.0.0) w.0.1 p w.2 in
    record {
      window = l.word;
      size = s.word;
      spelled = front l.word (s.word ∷ p.1) w.0.1 ws s.spelled l.spelled;
      says = announces l.word s.word w.0.0 p.0 l.says s.says;
    }

nothing_left : (ws : List (List ℕ)) (u : Unit {0}) → ends ws ≡ Ok u → [] ≡ ws
nothing_left [] u e = refl
nothing_left (word ∷ more) u e = absurd cc

copy_leads : (ws : List (List ℕ)) (temp : Option (List ℕ)) → copy_of ws ≡ Ok temp → NamesCopy ws temp
copy_leads [] temp e = let same : None ≡ temp = cc in subst (λ (t : Option (List ℕ)). NamesCopy [] t) same refl
copy_leads (word ∷ more) temp e =
    let n = bind_ok (name_at (word ∷ more)) _ temp e in
    let u = bind_ok (ends n.0.1) _ temp n.2 in
    let l = name_leads (word ∷ more) n.0 n.1 in
    let found = u.2 in
    let same : Some n.0.0 ≡ temp = cc in
    subst (λ (t : Option (List ℕ)). NamesCopy (word ∷ more) t) same
    (l.0, sym l.1 ∙ ap (λ rest. n.0.0 ∷ rest) (sym (nothing_left n.0.1 u.0 u.1)))

-- ---- what is read the table says

as_meaning : (ws : List (List ℕ)) (x m : LineMeaning) → LineSays ws x → x ≡ m → LineSays ws m
as_meaning ws x m h e = subst (LineSays ws) e h

ok_is : {x m : LineMeaning} → ◌≡◌ {A = Result LineMeaning Wrong} (Ok x) (Ok m) → x ≡ m
ok_is e = cc

-- the words behind the first one, spelled out
spelled_says : (first : List ℕ) (spelled ws : List (List ℕ)) (x m : LineMeaning) → spelled ≡ ws → LineSays (first ∷ spelled) x
    → ◌≡◌ {A = Result LineMeaning Wrong} (Ok x) (Ok m) → LineSays (first ∷ ws) m
spelled_says first spelled ws x m e h f = subst (λ rest. LineSays (first ∷ rest) m) e (as_meaning (first ∷ spelled) x m h (ok_is f))

place_says : (side : Side) (ws : List (List ℕ)) (m : LineMeaning) → place_of side ws ≡ Ok m → LineSays (side_word side ∷ ws) m
place_says side ws m e =
    let n = bind_ok (name_at ws) _ m e in
    let a = bind_ok (announcement_at n.0.1) _ m n.2 in
    let u = bind_ok (ends a.0.1) _ m a.2 in
    let name = name_leads ws n.0 n.1 in
    let l = announcement_leads n.0.1 a.0 a.1 in
    spelled_says (side_word side) (n.0.0 ∷ l.window ∷ l.size ∷ []) ws (of_end side (place n.0.0 a.0.0)) m
    (front n.0.0 _ n.0.1 ws (ap (λ more. l.window ∷ l.size ∷ more) (nothing_left a.0.1 u.0 u.1) ∙ l.spelled) name.1)
    (end_line name.0 l.says) u.2

file_says : (ws : List (List ℕ)) (m : LineMeaning) → file_of ws ≡ Ok m → LineSays (codes "file" ∷ ws) m
file_says ws m e =
    let s = bind_ok (side_at ws) _ m e in
    let n = bind_ok (name_at s.0.1) _ m s.2 in
    let o = bind_ok (mode_at n.0.1) _ m n.2 in
    let h = bind_ok (hex_at o.0.1) _ m o.2 in
    let u = bind_ok (ends h.0.1) _ m h.2 in
    let name = name_leads s.0.1 n.0 n.1 in
    let mode = mode_leads n.0.1 o.0 o.1 in
    let hex = hex_leads o.0.1 h.0 h.1 in
    spelled_says (codes "file") (side_word s.0.0 ∷ n.0.0 ∷ mode.word ∷ hex.word ∷ []) ws (of_end s.0.0 (file (kept_file n.0.0 o.0.0 h.0.0))) m
    (front _ _ s.0.1 ws (front _ _ n.0.1 _ (front _ _ o.0.1 _ (front _ _ h.0.1 _ (nothing_left h.0.1 u.0 u.1) hex.spelled) mode.spelled) name.1) (side_leads ws s.0 s.1))
    (file_line name.0 mode.says hex.says) u.2

send_says : (ws : List (List ℕ)) (m : LineMeaning) → send_of ws ≡ Ok m → LineSays (codes "send" ∷ ws) m
send_says ws m e =
    let s = bind_ok (side_at ws) _ m e in
    let a = bind_ok (name_at s.0.1) _ m s.2 in
    let b = bind_ok (name_at a.0.1) _ m a.2 in
    let c = bind_ok (name_at b.0.1) _ m b.2 in
    let t = bind_ok (copy_of c.0.1) _ m c.2 in
    let source = name_leads s.0.1 a.0 a.1 in
    let target = name_leads a.0.1 b.0 b.1 in
    let user = name_leads b.0.1 c.0 c.1 in
    spelled_says (codes "send") (side_word s.0.0 ∷ a.0.0 ∷ b.0.0 ∷ c.0.0 ∷ c.0.1) ws (of_end s.0.0 (job (Send a.0.0 b.0.0 c.0.0 t.0))) m
    (front _ _ s.0.1 ws (front _ _ a.0.1 _ (front _ _ b.0.1 _ user.1 target.1) source.1) (side_leads ws s.0 s.1))
    (send_line {side = s.0.0} {temp = t.0} (source.0, target.0, user.0) (copy_leads c.0.1 t.0 t.1)) t.2

request_says : (ws : List (List ℕ)) (m : LineMeaning) → request_of ws ≡ Ok m → LineSays (codes "request" ∷ ws) m
request_says ws m e =
    let s = bind_ok (side_at ws) _ m e in
    let a = bind_ok (name_at s.0.1) _ m s.2 in
    let b = bind_ok (name_at a.0.1) _ m a.2 in
    let c = bind_ok (name_at b.0.1) _ m b.2 in
    let u = bind_ok (ends c.0.1) _ m c.2 in
    let source = name_leads s.0.1 a.0 a.1 in
    let target = name_leads a.0.1 b.0 b.1 in
    let user = name_leads b.0.1 c.0 c.1 in
    spelled_says (codes "request") (side_word s.0.0 ∷ a.0.0 ∷ b.0.0 ∷ c.0.0 ∷ []) ws (of_end s.0.0 (job (Request a.0.0 b.0.0 c.0.0))) m
    (front _ _ s.0.1 ws (front _ _ a.0.1 _ (front _ _ b.0.1 _ (front _ _ c.0.1 _ (nothing_left c.0.1 u.0 u.1) user.1) target.1) source.1) (side_leads ws s.0 s.1))
    (request_line {side = s.0.0} (source.0, target.0, user.0)) u.2

pair_is : {A : Type 0} (side : Side) (x : A) (p : Side × A) → ◌≡◌ {A = Result (Side × A) Wrong} (Ok (side, x)) (Ok p) → (side, x) ≡ p
pair_is side x p e = cc

-- ---- a side and a name, a side and a number, a side and a byte, and a side alone

named_says : (first : List ℕ) (means : Side → List ℕ → LineMeaning)
    → ((side : Side) (name : List ℕ) → IsName name → LineSays (first ∷ side_word side ∷ name ∷ []) (means side name))
    → (ws : List (List ℕ)) (m : LineMeaning) → side_and_name ws >>= (λ p. Ok (means p.0 p.1)) ≡ Ok m → LineSays (first ∷ ws) m
named_says first means says ws m e =
    let p = bind_ok (side_and_name ws) _ m e in
    let s = bind_ok (side_at ws) _ p.0 p.1 in
    let n = bind_ok (name_at s.0.1) _ p.0 s.2 in
    let u = bind_ok (ends n.0.1) _ p.0 n.2 in
    let name = name_leads s.0.1 n.0 n.1 in
    let same = pair_is s.0.0 n.0.0 p.0 u.2 in
    spelled_says first (side_word s.0.0 ∷ n.0.0 ∷ []) ws (means s.0.0 n.0.0) m
    (front _ _ s.0.1 ws (front _ _ n.0.1 _ (nothing_left n.0.1 u.0 u.1) name.1) (side_leads ws s.0 s.1))
    (says s.0.0 n.0.0 name.0) (ap (λ (q : Side × List ℕ). Ok (means q.0 q.1)) same ∙ p.2)

numbered_says : (field : Field) (first : List ℕ) (most : ℕ) (means : Side → ℕ → LineMeaning)
    → ((side : Side) (word : List ℕ) (n : ℕ) → WritesNumber most word n → LineSays (first ∷ side_word side ∷ word ∷ []) (means side n))
    → (ws : List (List ℕ)) (m : LineMeaning) → side_and_number field most ws >>= (λ p. Ok (means p.0 p.1)) ≡ Ok m → LineSays (first ∷ ws) m
numbered_says field first most means says ws m e =
    let p = bind_ok (side_and_number field most ws) _ m e in
    let s = bind_ok (side_at ws) _ p.0 p.1 in
    let n = bind_ok (number_at field most s.0.1) _ p.0 s.2 in
    let u = bind_ok (ends n.0.1) _ p.0 n.2 in
    let l = number_leads field most s.0.1 n.0 n.1 in
    let same = pair_is s.0.0 n.0.0 p.0 u.2 in
    spelled_says first (side_word s.0.0 ∷ l.word ∷ []) ws (means s.0.0 n.0.0) m
    (front _ _ s.0.1 ws (front _ _ n.0.1 _ (nothing_left n.0.1 u.0 u.1) l.spelled) (side_leads ws s.0 s.1))
    (says s.0.0 l.word n.0.0 l.says) (ap (λ (q : Side × ℕ). Ok (means q.0 q.1)) same ∙ p.2)

byte_says : (first : List ℕ) (means : Side → ℕ → LineMeaning)
    → ((side : Side) (hex : List ℕ) (b : ℕ) → decode_of hex ≡ Ok (b ∷ []) → LineSays (first ∷ side_word side ∷ hex ∷ []) (means side b))
    → (ws : List (List ℕ)) (m : LineMeaning) → side_and_byte ws >>= (λ p. Ok (means p.0 p.1)) ≡ Ok m → LineSays (first ∷ ws) m
byte_says first means says ws m e =
    let p = bind_ok (side_and_byte ws) _ m e in
    let s = bind_ok (side_at ws) _ p.0 p.1 in
    let b = bind_ok (byte_at s.0.1) _ p.0 s.2 in
    let u = bind_ok (ends b.0.1) _ p.0 b.2 in
    let l = byte_leads s.0.1 b.0 b.1 in
    let same = pair_is s.0.0 b.0.0 p.0 u.2 in
    spelled_says first (side_word s.0.0 ∷ l.word ∷ []) ws (means s.0.0 b.0.0) m
    (front _ _ s.0.1 ws (front _ _ b.0.1 _ (nothing_left b.0.1 u.0 u.1) l.spelled) (side_leads ws s.0 s.1))
    (says s.0.0 l.word b.0.0 l.says) (ap (λ (q : Side × ℕ). Ok (means q.0 q.1)) same ∙ p.2)

alone_says : (first : List ℕ) (means : Side → LineMeaning) → ((side : Side) → LineSays (first ∷ side_word side ∷ []) (means side))
    → (ws : List (List ℕ)) (m : LineMeaning) → one_side ws >>= (λ s. Ok (means s)) ≡ Ok m → LineSays (first ∷ ws) m
alone_says first means says ws m e =
    let p = bind_ok (one_side ws) _ m e in
    let s = bind_ok (side_at ws) _ p.0 p.1 in
    let u = bind_ok (ends s.0.1) _ p.0 s.2 in
    let found = u.2 in
    let same : s.0.0 ≡ p.0 = cc in
    spelled_says first (side_word s.0.0 ∷ []) ws (means s.0.0) m
    (front _ _ s.0.1 ws (nothing_left s.0.1 u.0 u.1) (side_leads ws s.0 s.1))
    (says s.0.0) (ap (λ side. Ok (means side)) same ∙ p.2)

limit_says : (ws : List (List ℕ)) (m : LineMeaning) → limit_line_of ws ≡ Ok m → LineSays (codes "limit" ∷ ws) m
limit_says ws m e =
    let s = bind_ok (side_at ws) _ m e in
    let n = bind_ok (limit_at s.0.1) _ m s.2 in
    let u = bind_ok (ends n.0.1) _ m n.2 in
    let l = limit_leads s.0.1 n.0 n.1 in
    spelled_says (codes "limit") (side_word s.0.0 ∷ l.word ∷ []) ws (of_end s.0.0 (limit n.0.0)) m
    (front _ _ s.0.1 ws (front _ _ n.0.1 _ (nothing_left n.0.1 u.0 u.1) l.spelled) (side_leads ws s.0 s.1))
    (limit_line {side = s.0.0} l.says.0 l.says.1) u.2

call_says : (ws : List (List ℕ)) (m : LineMeaning) → call_of ws ≡ Ok m → LineSays (codes "call" ∷ ws) m
call_says ws m e =
    let u = bind_ok (ends ws) _ m e in
    spelled_says (codes "call") [] ws (event Call) m (nothing_left ws u.0 u.1) call_line u.2

flow_says : (ws : List (List ℕ)) (m : LineMeaning) → flow_of ws ≡ Ok m → LineSays (codes "flow" ∷ ws) m
flow_says ws m e =
    let n = bind_ok (number_at fields.Turns TURNS_MAX ws) _ m e in
    let u = bind_ok (ends n.0.1) _ m n.2 in
    let l = number_leads fields.Turns TURNS_MAX ws n.0 n.1 in
    spelled_says (codes "flow") (l.word ∷ []) ws (flow n.0.0) m (front _ _ n.0.1 ws (nothing_left n.0.1 u.0 u.1) l.spelled) (flow_line l.says) u.2

with_first : (word first : List ℕ) (ws : List (List ℕ)) (m : LineMeaning) → word ≡ first → LineSays (word ∷ ws) m → LineSays (first ∷ ws) m
with_first word first ws m e h = subst (λ w. LineSays (w ∷ ws) m) e h

-- by the first word
by_word : (first word : List ℕ) (ws : List (List ℕ)) (x y : Result LineMeaning Wrong) (m : LineMeaning)
    → (if bytes_eq first word then x else y) ≡ Ok m
    → (x ≡ Ok m → LineSays (word ∷ ws) m) → (y ≡ Ok m → LineSays (first ∷ ws) m) → LineSays (first ∷ ws) m
by_word first word ws x y m e here elsewhere = by_test (bytes_eq first word) refl e where
  by_test : (b : Bool) → bytes_eq first word ≡ b → (if b then x else y) ≡ Ok m → LineSays (first ∷ ws) m
  by_test true t f = with_first word first ws m (sym (same_bytes first word t)) (here f)
  by_test false t f = elsewhere f

event_says : (first : List ℕ) (ws : List (List ℕ)) (m : LineMeaning) → event_by first ws ≡ Ok m → LineSays (first ∷ ws) m
event_says first ws m e =
    by_word first (codes "pass") ws _ _ m e (numbered_says _ _ _ (λ s n. event (Pass s n)) (λ s w n h. pass_line h) ws m) (λ e.
    by_word first (codes "drop") ws _ _ m e (numbered_says _ _ _ (λ s n. event (Drop s n)) (λ s w n h. drop_line h) ws m) (λ e.
    by_word first (codes "flip") ws _ _ m e (byte_says _ (λ s b. event (Flip s b)) (λ s w b h. flip_line h) ws m) (λ e.
    by_word first (codes "insert") ws _ _ m e (byte_says _ (λ s b. event (Insert s b)) (λ s w b h. insert_line h) ws m) (λ e.
    by_word first (codes "timeout") ws _ _ m e (alone_says _ (λ s. event (Timeout s)) (λ s. timeout_line) ws m) (λ e.
    by_word first (codes "hangup") ws _ _ m e (alone_says _ (λ s. event (HangUp s)) (λ s. hangup_line) ws m) (λ e.
    by_word first (codes "call") ws _ _ m e (call_says ws m) (λ e.
    by_word first (codes "flow") ws _ _ m e (flow_says ws m) (λ e. absurd cc))))))))

line_says : (first : List ℕ) (ws : List (List ℕ)) (m : LineMeaning) → line_by first ws ≡ Ok m → LineSays (first ∷ ws) m
line_says first ws m e =
    by_word first (codes "caller") ws _ _ m e (place_says Caller ws m) (λ e.
    by_word first (codes "called") ws _ _ m e (place_says Called ws m) (λ e.
    by_word first (codes "file") ws _ _ m e (file_says ws m) (λ e.
    by_word first (codes "send") ws _ _ m e (send_says ws m) (λ e.
    by_word first (codes "request") ws _ _ m e (request_says ws m) (λ e.
    by_word first (codes "deny") ws _ _ m e (named_says _ (λ s n. of_end s (deny n)) (λ s n h. deny_line h) ws m) (λ e.
    by_word first (codes "later") ws _ _ m e (named_says _ (λ s n. of_end s (later n)) (λ s n h. later_line h) ws m) (λ e.
    by_word first (codes "immovable") ws _ _ m e (named_says _ (λ s n. of_end s (immovable n)) (λ s n h. immovable_line h) ws m) (λ e.
    by_word first (codes "number") ws _ _ m e (numbered_says _ _ _ (λ s n. of_end s (number n)) (λ s w n h. number_line h) ws m) (λ e.
    by_word first (codes "quiet") ws _ _ m e (alone_says _ (λ s. of_end s quiet) (λ s. quiet_line) ws m) (λ e.
    by_word first (codes "short") ws _ _ m e (alone_says _ (λ s. of_end s short) (λ s. short_line) ws m) (λ e.
    by_word first (codes "lenient") ws _ _ m e (alone_says _ (λ s. of_end s lenient) (λ s. lenient_line) ws m) (λ e.
    by_word first (codes "digest") ws _ _ m e (alone_says _ (λ s. of_end s digest) (λ s. digest_line) ws m) (λ e.
    by_word first (codes "resume") ws _ _ m e (alone_says _ (λ s. of_end s resume) (λ s. resume_line) ws m) (λ e.
    by_word first (codes "limit") ws _ _ m e (limit_says ws m) (λ e.
    event_says first ws m e)))))))))))))))

comment_is : (first : List ℕ) → is_comment first ≡ true → (letters : List ℕ) × (35 ∷ letters ≡ first)
comment_is [] e = absurd cc
comment_is (c ∷ cs) e = let k : 35 ≡ c = grind (arith, nat_tests) in (cs, ap (λ z. z ∷ cs) k)

read_says : (ws : List (List ℕ)) (m : LineMeaning) → line_of_words ws ≡ Ok m → LineSays ws m
read_says [] m e = as_meaning [] nothing m blank (ok_is e)
read_says (first ∷ ws) m e = by_comment (is_comment first) refl e where
  by_comment : (b : Bool) → is_comment first ≡ b → (if b then Ok nothing else line_by first ws) ≡ Ok m → LineSays (first ∷ ws) m
  by_comment true t f =
      let c = comment_is first t in
      with_first (35 ∷ c.0) first ws m c.1 (as_meaning ((35 ∷ c.0) ∷ ws) nothing m comment (ok_is f))
  by_comment false t f = line_says first ws m f

pub read_text_says : (line : List ℕ) (m : LineMeaning) → line_of line ≡ Ok m → TextSays line m
read_text_says line m e = by_length (nat_le (length line) LINE_MAX) refl e where
  by_length : (b : Bool) → nat_le (length line) LINE_MAX ≡ b → (if b then line_of_words (words line) else Err too_long) ≡ Ok m → TextSays line m
  by_length true t f = record { within = grind (arith, nat_tests); said = read_says (words line) m f }
  by_length false t f = absurd cc

-- ---- a bad line

pub wrong_says_nothing : (line : List ℕ) (w : Wrong) (m : LineMeaning) → line_of line ≡ Err w → TextSays line m → ⊥
wrong_says_nothing line w m e h = let good = text_says_read line m h in absurd cc

pub bad_line_complains : (line : List ℕ) → ((m : LineMeaning) → TextSays line m → ⊥) → IsSome (result_err (line_of line))
bad_line_complains line h = by_reading (line_of line) refl where
  by_reading : (r : Result LineMeaning Wrong) → line_of line ≡ r → IsSome (result_err r)
  by_reading (Ok m) t = absurd (h m (read_text_says line m t))
  by_reading (Err w) t = refl
