-- The lines of commits lead over entries, and in one way.
use Rattle.std.proofs.Common.{◌≡◌, ◌<◌, ◌≤◌, ◌+◌, ◌-◌, ◌^◌, ℕ, List, [], ◌∷◌, ◌++◌, length, map}
use Rattle.std.proofs.Common.{take, drop, replicate, refl, ap, sym, ◌∙◌, subst, arith, append_assoc}
use Rattle.std.proofs.Common.{length-append}
use Rattle.std.proofs.Common.{Option}
use Rattle.std.proofs.Math.Seq.{take-append_seam, drop-append_seam}
use Rattle.pgapply.specs.declared.commit.About.{About}
use Rattle.pgledger.specs.Entries.{Entry, last_end}
use Rattle.pgcrc.specs.Crc.{crc32}
use Rattle.pgfeed.specs.Texts.{Bodies, commit_front, commit_line, commit_object, commit_rest}
use Rattle.pgfeed.specs.Texts.{commit_told, crc_text, entries_text, entry_crc, entry_line}
use Rattle.pgfeed.specs.Texts.{entry_text}
use Rattle.pgfeed.specs.Fits.{FitsEntry}
use Rattle.pgfeed.specs.declared.mark.Mark.{Mark}
use Rattle.pgfeed.specs.Reading.{BeginsWith, EntriesHaveTheirCrc, LinesLeadOver}
use Rattle.pgfeed.specs.Reading.{TextIsReadInOneWay, Walks, mark_of}
use Rattle.pgfeed.specs.Cutting.Fronts.{one_front}
use Rattle.pgfeed.specs.Cutting.Widths.{crc_small, line_length}

-- a walk goes up
pub walks_up : (at place size : ℕ) (marks : List Mark) (text : List ℕ) → Walks at marks text place size → at ≤ place
walks_up at place size [] text walk = omega (arith, walk.0)
walks_up at place size (mark ∷ marks) text walk = let more =
    walks_up mark.end place walk.1.0 marks (drop (256 + mark.bytes) text) walk.1.2 in omega (arith, walk.0.above)

same_mark : (a b : Mark) → a.end ≡ b.end → a.bytes ≡ b.bytes → a ≡ b
same_mark a b ends long = rw (ends, long) refl

-- two first lines are one
one_line : (at : ℕ) (mark other : Mark) (text : List ℕ) → at < 2 ^ 64 → BeginsWith at mark text → BeginsWith at other text → mark ≡ other
one_line at mark other text small a b =
    let same = one_front mark.end other.end at mark.bytes other.bytes a.more b.more a.end_fits b.end_fits small a.bytes_fit b.bytes_fit
    (sym a.line ∙ b.line) in
    same_mark mark other same.0 same.1

pub one_walk : TextIsReadInOneWay
one_walk at place size other [] [] text small a b = (refl, a.1 ∙ sym b.1)
one_walk at place size other [] (mark ∷ marks) text small a b =
    let up = walks_up mark.end place b.1.0 marks (drop (256 + mark.bytes) text) b.1.2 in absurd (omega (arith, a.0, b.0.above))
one_walk at place size other (mark ∷ marks) [] text small a b =
    let up = walks_up mark.end place a.1.0 marks (drop (256 + mark.bytes) text) a.1.2 in absurd (omega (arith, b.0, a.0.above))
one_walk at place size other (mark ∷ marks) (second ∷ others) text small a b =
    let same : mark ≡ second = one_line at mark second text small a.0 b.0 in
    let there : Walks mark.end others (drop (256 + mark.bytes) text) place b.1.0 =
    subst (λ (m : Mark). Walks m.end others (drop (256 + m.bytes) text) place b.1.0) (sym same) b.1.2 in
    let rest = one_walk mark.end place a.1.0 b.1.0 marks others (drop (256 + mark.bytes) text) a.0.end_fits a.1.2 there in (
      ap (λ m. m ∷ marks) same ∙ ap (λ ms. second ∷ ms) rest.0,
      a.1.1 ∙ ap (λ k. 256 + mark.bytes + k) rest.1 ∙ ap (λ (m : Mark). 256 + m.bytes + b.1.0) same ∙ sym b.1.1,
    )

-- an entry is its line, and then so many bytes
pub entry_splits : (at : ℕ) (e : Entry) (body : List ℕ) → entry_text at e body ≡ entry_line at e body ++ body
unfolding entry_text
entry_splits at e body = refl

entry_crc_small : (at : ℕ) (e : Entry) (body : List ℕ) → entry_crc at e body < 2 ^ 32
unfolding entry_crc
entry_crc_small at e body = crc_small (commit_told e.end at (length body) (length e.lines) e.about ++ body)

pub own_length : (at : ℕ) (e : Entry) (body : List ℕ) → FitsEntry at e body → length (entry_line at e body) ≡ 256
own_length at e body fits =
    line_length e.end at (length body) (length e.lines) e.about (entry_crc at e body) fits (entry_crc_small at e body)

pub entry_length : (at : ℕ) (e : Entry) (body : List ℕ) → FitsEntry at e body → length (entry_text at e body) ≡ 256 + length body
entry_length at e body fits =
    ap length (entry_splits at e body) ∙ length-append (entry_line at e body) body
    ∙ ap (λ k. k + length body) (own_length at e body fits)

-- the front of a text, and what is behind it
pub take_front : (n : ℕ) (xs ys : List ℕ) → length xs ≡ n → take n (xs ++ ys) ≡ xs
take_front n xs ys e = rw (← e) (take-append_seam xs ys)

pub drop_front : (n : ℕ) (xs ys : List ℕ) → length xs ≡ n → drop n (xs ++ ys) ≡ ys
drop_front n xs ys e = rw (← e) (drop-append_seam xs ys)

pub next_entry : (bodies : Bodies) (at : ℕ) (e : Entry) (es : List Entry)
    → entries_text bodies at (e ∷ es) ≡ entry_text at e (bodies e.end) ++ entries_text bodies e.end es
unfolding entries_text
next_entry bodies at e es = refl

pub no_entry : (bodies : Bodies) (at : ℕ) → entries_text bodies at [] ≡ []
unfolding entries_text
no_entry bodies at = refl

-- the line of a commit is its front, and more
line_more : (end prev bytes changes : ℕ) (about : Option About) (crc : ℕ)
    → (more : List ℕ) × (commit_line end prev bytes changes about crc ≡ commit_front end prev bytes ++ more)
line_more end prev bytes changes about crc =
    let blanks : List ℕ = replicate (256 - 1 - length (commit_object end prev bytes changes about crc)) 32 ++ 10 ∷ [] in (
      commit_rest changes about ++ (crc_text crc ++ blanks),
      append_assoc (commit_told end prev bytes changes about) (crc_text crc) blanks
          ∙ append_assoc (commit_front end prev bytes) (commit_rest changes about) (crc_text crc ++ blanks),
    )

-- a text that begins with an entry begins with its line
pub begins : (at : ℕ) (e : Entry) (body rest : List ℕ) → at < e.end → FitsEntry at e body
    → BeginsWith at (record { end = e.end; bytes = length body }) (entry_text at e body ++ rest)
begins at e body rest above fits =
    let line : List ℕ = entry_line at e body in
    let long = own_length at e body fits in
    let whole : entry_text at e body ++ rest ≡ line ++ (body ++ rest) =
    ap (λ text. text ++ rest) (entry_splits at e body) ∙ append_assoc line body rest in
    let parts = line_more e.end at (length body) (length e.lines) e.about (entry_crc at e body) in
    let size = entry_length at e body fits in
    record {
      above = above;
      end_fits = fits.end_fits;
      bytes_fit = fits.bytes_fit;
      more = parts.0;
      line = ap (take 256) whole ∙ take_front 256 line (body ++ rest) long ∙ parts.1;
      within = omega (arith, length-append (entry_text at e body) rest);
    }

-- what stands behind the checksum
crc_more : (end prev bytes changes : ℕ) (about : Option About) (crc : ℕ)
    → (more : List ℕ) × (commit_line end prev bytes changes about crc ≡ commit_told end prev bytes changes about ++ (crc_text crc ++ more))
crc_more end prev bytes changes about crc =
    let blanks : List ℕ = replicate (256 - 1 - length (commit_object end prev bytes changes about crc)) 32 ++ 10 ∷ [] in
    (blanks, append_assoc (commit_told end prev bytes changes about) (crc_text crc) blanks)

crc_is : (at : ℕ) (e : Entry) (body : List ℕ)
    → entry_crc at e body ≡ crc32 (commit_told e.end at (length body) (length e.lines) e.about ++ body)
unfolding entry_crc
crc_is at e body = refl

pub have_their_crc : EntriesHaveTheirCrc
have_their_crc at e body rest fits =
    let told : List ℕ = commit_told e.end at (length body) (length e.lines) e.about in
    let line : List ℕ = entry_line at e body in
    let long : length line ≡ 256 = own_length at e body fits in
    let whole : entry_text at e body ++ rest ≡ line ++ (body ++ rest) =
    ap (λ text. text ++ rest) (entry_splits at e body) ∙ append_assoc line body rest in
    let parts = crc_more e.end at (length body) (length e.lines) e.about (entry_crc at e body) in
    let behind : take (length body) (drop 256 (entry_text at e body ++ rest)) ≡ body =
    ap (λ text. take (length body) (drop 256 text)) whole
    ∙ ap (take (length body)) (drop_front 256 line (body ++ rest) long) ∙ take_front (length body) body rest refl in
    let crc : entry_crc at e body ≡ crc32 (told ++ take (length body) (drop 256 (entry_text at e body ++ rest))) =
    crc_is at e body ∙ ap (λ text. crc32 (told ++ text)) (sym behind) in
    record {
      told = told;
      more = parts.0;
      line = ap (take 256) whole ∙ take_front 256 line (body ++ rest) long ∙ parts.1
          ∙ ap (λ crc. told ++ (crc_text crc ++ parts.0)) crc;
    }

pub over_entries : LinesLeadOver
over_entries bodies front at [] rest are written = (refl, ap length (no_entry bodies at))
over_entries bodies front at (e ∷ es) rest are written =
    let body : List ℕ = bodies e.end in
    let size = entry_length at e body written.0 in
    let text : entries_text bodies at (e ∷ es) ++ rest ≡ entry_text at e body ++ (entries_text bodies e.end es ++ rest) =
    ap (λ text. text ++ rest) (next_entry bodies at e es) ∙ append_assoc (entry_text at e body) (entries_text bodies e.end es) rest in
    let next : drop (256 + length body) (entries_text bodies at (e ∷ es) ++ rest) ≡ entries_text bodies e.end es ++ rest =
    ap (drop (256 + length body)) text
    ∙ drop_front (256 + length body) (entry_text at e body) (entries_text bodies e.end es ++ rest) size in
    let more : Walks e.end (map (mark_of bodies) es) (entries_text bodies e.end es ++ rest) (last_end e.end es)
    (length (entries_text bodies e.end es)) =
    over_entries bodies (front ++ entry_text at e body) e.end es rest are.1 written.2 in (
      subst (BeginsWith at (mark_of bodies e)) (sym text) (begins at e body (entries_text bodies e.end es ++ rest) are.0 written.0),
      (
        length (entries_text bodies e.end es),
        ap length (next_entry bodies at e es) ∙ length-append (entry_text at e body) (entries_text bodies e.end es)
            ∙ ap (λ k. k + length (entries_text bodies e.end es)) size,
        subst (λ text. Walks e.end (map (mark_of bodies) es) text (last_end e.end es) (length (entries_text bodies e.end es))) (sym next)
            more,
      ),
    )
