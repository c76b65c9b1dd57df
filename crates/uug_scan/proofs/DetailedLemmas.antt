-- Lines that are written one piece after the other.
use Rattle.std.proofs.Common.{◌≡◌, ℕ, ◌+◌, ◌*◌, ◌≤◌, List, [], ◌++◌, length, take, Option, Some, None, refl, sym, ap, ◌∙◌, arith, append_assoc, subst, length-append, length-take, IfSome, inl}
use Rattle.std.specs.Prelude.{⊤}
use Rattle.std.proofs.lemmas.List.{append-nil}
use Rattle.uug_packet.specs.Waits.{Waits}
use Rattle.uug_stream.specs.Streams.{Appends, Moves}
use Rattle.uug_scan.specs.declared.scan.TheConstants.{PIECE_SIZE}
use Rattle.uug_stream.proofs.StreamLemmas.{Appends-join}
use Rattle.uug_scan.specs.declared.noise.Noise.{Noise}
use Rattle.uug_scan.specs.Told.{Told, begin, of_rest, puts, told_of}
use Rattle.uug_scan.specs.Detailed.{IsDetailed, AppendsDetailed, entry_lines}
use Rattle.uug_scan.specs.Code.Noise.{AddsParts, Holds, Tells, end_of, noise_at, told_by}
use Rattle.uug_scan.proofs.ToldLemmas.{AddsParts-none, AddsParts-join, AddsParts-append, entry_lines-append, behind, puts-behind, told_by-behind}

-- After some reads of an input that tells its bytes: those that are held and those still to come are what the parts
-- have left whose lines were written so far, and each read moved a byte or more, up to a piece.
abbrev pub Progress : ℕ → Option (List ℕ) → Option (List ℕ) → List ℕ → Noise → Option (List ℕ) → Option (List ℕ) → Type 0
Progress reads None now held noise x y = ⊤
Progress reads (Some bytes) now held noise x y =
    (rest : List ℕ) × (now ≡ Some rest) × (reads + length rest ≤ length bytes) × (length bytes ≤ length rest + reads * PIECE_SIZE)
    × (text : List ℕ) × AddsParts bytes (held ++ rest) (noise_at 0) noise [] text × Appends text x y

Appends-none : (x : Option (List ℕ)) → Appends [] x x
Appends-none None = tt
Appends-none (Some s) = ap Some (sym (append-nil s))

-- other lines in front
AddsParts-behind : (s others : List ℕ) (old new : Noise) (x y : List ℕ) → AddsParts s others old new [] y → AddsParts s others old new x (x ++ y)
AddsParts-behind s others old new x y h =
    record { parts = h.parts; entries = h.entries; cut = h.cut; told = h.told; lines = ap (λ t. x ++ t) h.lines }

-- the last line makes the listing whole
IsDetailed-rest : (bytes held text line : List ℕ) (noise new : Noise) (n : ℕ) → AddsParts bytes held (noise_at 0) noise [] text → Waits held → Tells (puts of_rest (length held)) n noise new [] line → IsDetailed bytes (text ++ line)
IsDetailed-rest bytes held text line noise new n h waits last =
    let told : told_of h.parts bytes begin ≡ told_by noise h.entries = ap (λ s. told_of h.parts s begin) (sym (append-nil bytes)) ∙ h.told [] in
    let rest : Told = puts of_rest (length held) (told_by noise []) in
    let whole : puts of_rest (length held) (told_of h.parts bytes begin) ≡ behind h.entries rest =
    ap (puts of_rest (length held)) (told ∙ told_by-behind noise h.entries) ∙ puts-behind h.entries of_rest (length held) (told_by noise []) in
    record {
      parts = h.parts;
      rest = held;
      cut = record { parts_are = h.cut; rest_waits = waits };
      text_is =
          ap (λ t. t ++ line) h.lines ∙ ap (λ t. entry_lines h.entries ++ t) last.lines
          ∙ sym (entry_lines-append h.entries rest.entries)
          ∙ ap (λ (t : Told). entry_lines t.entries) (sym whole);
    }

AppendsDetailed-rest : (bytes held text line : List ℕ) (noise new : Noise) (n : ℕ) (x y z : Option (List ℕ)) → AddsParts bytes held (noise_at 0) noise [] text → Waits held → Tells (puts of_rest (length held)) n noise new [] line → Appends text x y → Appends line y z → AppendsDetailed bytes x z
AppendsDetailed-rest bytes held text line noise new n None y z h waits last written a = tt
AppendsDetailed-rest bytes held text line noise new n (Some before) y z h waits last written a =
    let appended : Appends line (Some (before ++ text)) z = rw written at a in
    (text ++ line, IsDetailed-rest bytes held text line noise new n h waits last, appended ∙ ap Some (append_assoc before text line))

start : (first x : Option (List ℕ)) → Progress 0 first first [] (noise_at 0) x x
start None x = tt
start (Some bytes) x =
    (bytes, refl, omega arith, omega arith, [], AddsParts-none bytes (noise_at 0) [], Appends-none x)

pub Progress-start : (first x : Option (List ℕ)) (held : List ℕ) (noise : Noise) → held ≡ [] → noise ≡ noise_at 0 → Progress 0 first first held noise x x
Progress-start first x held noise none from =
    subst (λ h. Progress 0 first first h noise x x) (sym none) (subst (λ n. Progress 0 first first [] n x x) (sym from) (start first x))

-- a piece is read, and the lines of the parts of what is then held are written
pub Progress-piece : (reads n : ℕ) (first now then : Option (List ℕ)) (held others buffer lines : List ℕ) (old new : Noise) (x y z : Option (List ℕ)) → Progress reads first now held old x y → Moves n buffer now then → (n ≡ 0 → ⊥) → n ≤ length buffer → length buffer ≡ PIECE_SIZE → AddsParts (held ++ take n buffer) others old new [] lines → Appends lines y z → Progress (reads + 1) first then others new x z
Progress-piece reads n None now then held others buffer lines old new x y z h moves some fits size added appended = tt
Progress-piece reads n (Some bytes) now then held others buffer lines old new x y z h moves some fits size added appended =
    let moved : Moves n buffer (Some h.0) then = rw h.1 at moves in
    let piece = take n buffer in
    let regrouped : held ++ h.0 ≡ (held ++ piece) ++ moved.0 = ap (λ t. held ++ t) moved.2 ∙ sym (append_assoc held piece moved.0) in
    let before : AddsParts bytes ((held ++ piece) ++ moved.0) (noise_at 0) old [] h.4 = subst (λ t. AddsParts bytes t (noise_at 0) old [] h.4) regrouped h.5 in
    let after = AddsParts-append (held ++ piece) others moved.0 old new h.4 (h.4 ++ lines) (AddsParts-behind (held ++ piece) others old new h.4 lines added) in (
      moved.0,
      moved.1,
      omega (arith, h.2, some, fits, length-take n buffer, ap length moved.2, length-append piece moved.0),
      omega (arith, h.3, fits, size, length-take n buffer, ap length moved.2, length-append piece moved.0),
      h.4 ++ lines,
      AddsParts-join bytes ((held ++ piece) ++ moved.0) (others ++ moved.0) (noise_at 0) old new [] h.4 (h.4 ++ lines) before after,
      Appends-join h.4 lines x y z h.6 appended,
    )

-- the input has ended, and the last line was written
AppendsDetailed-whole : (reads n m : ℕ) (first now then : Option (List ℕ)) (held buffer line : List ℕ) (noise new : Noise) (x y z : Option (List ℕ)) → Progress reads first now held noise x y → n ≡ 0 → Moves n buffer now then → Waits held → Tells (puts of_rest (length held)) m noise new [] line → Appends line y z → IfSome first (λ bytes. AppendsDetailed bytes x z)
AppendsDetailed-whole reads n m None now then held buffer line noise new x y z h zero moves waits last appended = tt
AppendsDetailed-whole reads n m (Some bytes) now then held buffer line noise new x y z h zero moves waits last appended =
    let moved : Moves n buffer (Some h.0) then = rw h.1 at moves in
    let none : h.0 ≡ [] = moved.3 zero in
    let all : AddsParts bytes held (noise_at 0) noise [] h.4 = subst (λ t. AddsParts bytes t (noise_at 0) noise [] h.4) (ap (λ t. held ++ t) none ∙ append-nil held) h.5 in
    AppendsDetailed-rest bytes held h.4 line noise new m x y z all waits last h.6 appended

-- the same, as the code has it
pub AppendsDetailed-end : (reads n size : ℕ) (first now then : Option (List ℕ)) (held buffer empty lines line : List ℕ) (noise new : Noise) (x y z : Option (List ℕ)) → Progress reads first now held noise x y → n ≡ 0 → Moves n buffer now then → Waits held → empty ≡ [] → size ≡ length held → Tells (puts of_rest size) size noise new empty lines → line ≡ lines → Appends line y z → IfSome first (λ bytes. AppendsDetailed bytes x z)
AppendsDetailed-end reads n size first now then held buffer empty lines line noise new x y z h zero moves waits empty_is size_is told line_is appended =
    let sized : Tells (puts of_rest (length held)) size noise new empty lines = subst (λ m. Tells (puts of_rest m) size noise new empty lines) size_is told in
    let from : Tells (puts of_rest (length held)) size noise new [] lines = subst (λ e. Tells (puts of_rest (length held)) size noise new e lines) empty_is sized in
    let last : Tells (puts of_rest (length held)) size noise new [] line = subst (Tells (puts of_rest (length held)) size noise new []) (sym line_is) from in
    AppendsDetailed-whole reads n size first now then held buffer line noise new x y z h zero moves waits last appended

pub record Begins (held : List ℕ) (noise : Noise) : Type 0 where
  pub waits : Waits held
  pub holds : Holds noise
  pub places : end_of noise + length held ≡ 0

pub begins : (held : List ℕ) (noise : Noise) → held ≡ [] → noise ≡ noise_at 0 → Begins held noise
begins held noise none from = rw (none, from) (record { waits = inl tt; holds = record { open_yet = refl; within = omega arith }; places = refl })
