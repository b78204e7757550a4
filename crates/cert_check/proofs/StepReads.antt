-- Steps that are read one after another from a certificate's text.
use Rattle.std.proofs.Common.{◌≡◌, ◌≢◌, ◌<◌, ℕ, false, List, [], ◌∷◌, ◌++◌, map, length, refl, sym, ◌∙◌, ap, subst, arith, append_assoc}
use Rattle.std.{proofs.lemmas.List.{append_cancel_left, append-nil, Elements.{All-nil, All-cons, All-head, All-tail}}, specs.Prelude.{All, codes, fold}}
use Rattle.pc_common.specs.{World.{Node}, Steps.{Step, split, close}, Lines.{Names, Line, step, end, line_words, step_words, lines_text}}
use Rattle.pc_ground.specs.{Tree.{Tree as GroundTree}, declared.version.Version.{Version, TheVariants.{One as version_one}}}
use Rattle.pc_ground.specs.Refutes.{all_signed, asserted, left_branch, right_branch, Branch, Runs}
use Rattle.line_judge.{specs.Texts.{IsLine, IsFirstLine}, proofs.Cuts.{same_first}}
use Rattle.refutation.specs.{Steps.{HasLine, IsStepIn, open_after, open_branches}, Reading.{IsLineOf}}
use Rattle.graph_text.proofs.Spaces.{lacking_on_line}
use Rattle.cert_check.specs.{Certificates.{Question}, Proper.{IsAsked}, Ones.{IsTreeText}, StepTexts.{header_text, IsReadable, IsAhead, HasRead}}
use Rattle.cert_check.proofs.{Advances.{line_of_run}, Bytes.{words_lack}, OneTexts.{header_lines}, Words.{no_end_step}, Propers.{IsProper}}

proper_of : (names : Names) (s : Step Node) → HasLine s → IsStepIn names s → IsProper names (step s)
proper_of names (split n p) has inside = has
proper_of names (close l) has inside = inside

readable_of : (q : Question) → IsAsked q → (s : Step Node) → IsLineOf q.names (line_words q.names (step s)) s → IsReadable q.names s
readable_of q asked s here = record {
  has_line = here.has_line;
  inside = here.inside;
  is_line = lacking_on_line (step_words q.names s) (words_lack q.names asked.readable (step s) (proper_of q.names s here.has_line here.inside));
}

-- steps that lead on have lines
runs_readable : (q : Question) → IsAsked q → (v : Version) (steps : List (Step Node)) (opens rest : List Branch) → Runs v q.tree steps opens rest
    → All (IsReadable q.names) steps
runs_readable q asked v [] opens rest r = All-nil (IsReadable q.names)
runs_readable q asked v (s ∷ ss) [] rest r = absurd r
runs_readable q asked v (split n p ∷ ss) (ps ∷ opens) rest r =
    let next : List Branch = left_branch ps n p r.0 ∷ right_branch v ps n p r.0 r.1 ∷ opens in
    All-cons (IsReadable q.names) (split n p) ss
    (readable_of q asked (split n p) (line_of_run q asked v (split n p) (ps ∷ opens) next (line_words q.names (step (split n p))) (r.0, r.1, r.2, refl) refl))
    (runs_readable q asked v ss next rest r.3)
runs_readable q asked v (close l ∷ ss) (ps ∷ opens) rest r =
    All-cons (IsReadable q.names) (close l) ss
    (readable_of q asked (close l) (line_of_run q asked v (close l) (ps ∷ opens) opens (line_words q.names (step (close l))) (r.0, refl) refl))
    (runs_readable q asked v ss opens rest r.1)

-- after the header all steps are ahead
pub ahead_start : (q : Question) → IsAsked q → (text left : List ℕ) (steps : List (Step Node)) → IsTreeText q text steps
    → text ≡ header_text q.expectation ++ left
    → IsAhead q.names q.tree [] steps left
ahead_start q asked text left steps t is = record {
  text_is = append_cancel_left (header_text q.expectation) left (lines_text q.names (map step steps ++ end ∷ []))
      (sym is ∙ t.text_is ∙ header_lines q (map step steps ++ end ∷ []));
  each = runs_readable q asked version_one steps (all_signed false (asserted q.tree 0) ∷ []) [] t.refutes;
  opens = all_signed false (asserted q.tree 0) ∷ [];
  count = refl;
  runs = t.refutes;
}

pub no_header : (q : Question) (text : List ℕ) (steps : List (Step Node)) → IsTreeText q text steps
    → ((rest : List ℕ) → text ≡ header_text q.expectation ++ rest → ⊥) → ⊥
no_header q text steps t none = none (lines_text q.names (map step steps ++ end ∷ [])) (t.text_is ∙ header_lines q (map step steps ++ end ∷ []))

-- the text of some lines has an LF
feed_inside : (xs ys : List ℕ) → IsLine (xs ++ 10 ∷ ys) → ⊥
feed_inside [] ys all = All-head (λ byte. byte ≢ 10) 10 ys all refl
feed_inside (x ∷ xs) ys all = feed_inside xs ys (All-tail (λ byte. byte ≢ 10) x (xs ++ 10 ∷ ys) all)

lines_cons : (names : Names) (l : Line) (ls : List Line) → lines_text names (l ∷ ls) ≡ line_words names l ++ 10 ∷ lines_text names ls
lines_cons names l ls = append_assoc (line_words names l) (10 ∷ []) (lines_text names ls)

first_cons : (line rest : List ℕ) → (line ++ codes "\n") ++ rest ≡ line ++ 10 ∷ rest
first_cons line rest = append_assoc line (10 ∷ []) rest

pub never_one_line : {names : Names} {t : GroundTree Node} {done more : List (Step Node)} {text : List ℕ} → IsAhead names t done more text → IsLine text → ⊥
never_one_line {names} {t} {done} {more} {text} ahead line = go more ahead.text_is
  where
    go : (ss : List (Step Node)) → text ≡ lines_text names (map step ss ++ end ∷ []) → ⊥
    go [] is = feed_inside (codes "end") [] (subst IsLine is line)
    go (s ∷ ss) is =
        feed_inside (step_words names s) (lines_text names (map step ss ++ end ∷ []))
        (subst IsLine (is ∙ lines_cons names (step s) (map step ss ++ end ∷ [])) line)

-- a step's line has that step's bytes
line_of : {names : Names} {s : Step Node} {line : List ℕ} → IsReadable names s → line ≡ step_words names s → IsLineOf names line s
line_of r is = record { has_line = r.has_line; inside = r.inside; is = is }

-- how the first line is that of the first step, and which text is after it
record FirstStep (names : Names) (more : List (Step Node)) (line rest : List ℕ) : Type 0 where
  first : Step Node
  others : List (Step Node)
  more_is : more ≡ first ∷ others
  line_is : line ≡ step_words names first
  rest_is : rest ≡ lines_text names (map step others ++ end ∷ [])

first_step : {names : Names} {t : GroundTree Node} {done more : List (Step Node)} {text line rest : List ℕ} → IsAhead names t done more text
    → IsFirstLine text line rest
    → (line ≡ codes "end" → ⊥) → FirstStep names more line rest
first_step {names} {t} {done} {more} {text} {line} {rest} ahead first other = go more ahead.text_is ahead.each
  where
    go : (ss : List (Step Node)) → text ≡ lines_text names (map step ss ++ end ∷ []) → All (IsReadable names) ss → FirstStep names ss line rest
    go [] is each =
        absurd (other (same_first line (codes "end") rest [] first.is_line (lacking_on_line (codes "end") refl)
        (sym (first.text_is ∙ first_cons line rest) ∙ is)).0)
    go (s ∷ ss) is each =
        let same = same_first line (step_words names s) rest (lines_text names (map step ss ++ end ∷ [])) first.is_line
        (All-head (IsReadable names) s ss each).is_line
        (sym (first.text_is ∙ first_cons line rest) ∙ is ∙ lines_cons names (step s) (map step ss ++ end ∷ [])) in
        record { first = s; others = ss; more_is = refl; line_is = same.0; rest_is = same.1 }

-- the last line stands after the last step
pub last_ahead : {names : Names} {t : GroundTree Node} {done more : List (Step Node)} {text line rest : List ℕ} → IsAhead names t done more text
    → IsFirstLine text line rest
    → line ≡ codes "end" → more ≡ []
last_ahead {names} {t} {done} {more} {text} {line} {rest} ahead first is_end = go more ahead.text_is ahead.each
  where
    go : (ss : List (Step Node)) → text ≡ lines_text names (map step ss ++ end ∷ []) → All (IsReadable names) ss → ss ≡ []
    go [] is each = refl
    go (s ∷ ss) is each =
        let same = same_first line (step_words names s) rest (lines_text names (map step ss ++ end ∷ [])) first.is_line
        (All-head (IsReadable names) s ss each).is_line
        (sym (first.text_is ∙ first_cons line rest) ∙ is ∙ lines_cons names (step s) (map step ss ++ end ∷ [])) in
        absurd (no_end_step names s (sym same.0 ∙ is_end))

-- a branch is open before a step
some_open : (v : Version) (t : GroundTree Node) (s : Step Node) (ss : List (Step Node)) (opens rest : List Branch) → Runs v t (s ∷ ss) opens rest
    → 0 < length opens
some_open v t s ss [] rest r = absurd r
some_open v t s ss (ps ∷ opens) rest r = omega arith

pub is_open : {names : Names} {t : GroundTree Node} {done more : List (Step Node)} {text line rest : List ℕ} → IsAhead names t done more text
    → IsFirstLine text line rest
    → (line ≡ codes "end" → ⊥) → 0 < open_branches done
is_open {names} {t} {done} ahead first other =
    let f = first_step ahead first other in
    let P : List (Step Node) → Type 0 = λ ss. Runs version_one t ss ahead.opens [] in
    let some = some_open version_one t f.first f.others ahead.opens [] (subst P f.more_is ahead.runs) in
    let count = ahead.count in omega (arith, some, count)

pub is_step : {names : Names} {t : GroundTree Node} {done more : List (Step Node)} {text line rest : List ℕ} → IsAhead names t done more text
    → IsFirstLine text line rest
    → (line ≡ codes "end" → ⊥) → (s : Step Node) × IsLineOf names line s
is_step {names} {t} {done} {more} ahead first other =
    let f = first_step ahead first other in
    let P : List (Step Node) → Type 0 = λ ss. All (IsReadable names) ss in
    (f.first, line_of (All-head (IsReadable names) f.first f.others (subst P f.more_is ahead.each)) f.line_is)

fold_snoc : (n : ℕ) (xs : List (Step Node)) (s : Step Node) → fold open_after n (xs ++ s ∷ []) ≡ open_after (fold open_after n xs) s
fold_snoc n [] s = refl
fold_snoc n (x ∷ xs) s = fold_snoc (open_after n x) xs s

-- the branches after a step
record StepsTo (t : GroundTree Node) (s : Step Node) (ss : List (Step Node)) (n : ℕ) : Type 0 where
  opens : List Branch
  count : open_after n s ≡ length opens
  runs : Runs version_one t ss opens []

steps_to : (t : GroundTree Node) (s : Step Node) (ss : List (Step Node)) (n : ℕ) (opens : List Branch) → n ≡ length opens
    → Runs version_one t (s ∷ ss) opens [] → StepsTo t s ss n
steps_to t s ss n [] is r = absurd r
steps_to t (split m p) ss n (ps ∷ opens) is r =
    record { opens = left_branch ps m p r.0 ∷ right_branch version_one ps m p r.0 r.1 ∷ opens; count = omega (arith, is); runs = r.3 }
steps_to t (close l) ss n (ps ∷ opens) is r = record { opens = opens; count = omega (arith, is); runs = r.1 }

-- the first step was put last
pub has_read : {names : Names} {t : GroundTree Node} {done more : List (Step Node)} {text line rest : List ℕ} (new : List (Step Node))
    → IsAhead names t done more text
    → IsFirstLine text line rest → (line ≡ codes "end" → ⊥) → ((s : Step Node) → IsLineOf names line s → new ≡ done ++ s ∷ [])
    → HasRead names t done more new rest
has_read {names} {t} {done} {more} {text} {line} {rest} new ahead first other put =
    let f = first_step ahead first other in
    let P : List (Step Node) → Type 0 = λ ss. All (IsReadable names) ss in
    let Q : List (Step Node) → Type 0 = λ ss. Runs version_one t ss ahead.opens [] in
    let each = subst P f.more_is ahead.each in
    let new_is = put f.first (line_of (All-head (IsReadable names) f.first f.others each) f.line_is) in
    let behind = steps_to t f.first f.others (open_branches done) ahead.opens ahead.count (subst Q f.more_is ahead.runs) in
    record {
      first = f.first;
      others = f.others;
      more_is = f.more_is;
      new_is = new_is;
      ahead = record {
        text_is = f.rest_is;
        each = All-tail (IsReadable names) f.first f.others each;
        opens = behind.opens;
        count = ap open_branches new_is ∙ fold_snoc 1 done f.first ∙ behind.count;
        runs = behind.runs;
      };
    }

-- while steps are read, those before and those ahead are all of them
pub record AllSteps (names : Names) (t : GroundTree Node) (steps done : List (Step Node)) (text : List ℕ) : Type 0 where
  pub more : List (Step Node)
  pub ahead : IsAhead names t done more text
  pub all : done ++ more ≡ steps

pub all_read : {names : Names} {t : GroundTree Node} {steps done : List (Step Node)} {text : List ℕ} (new : List (Step Node)) (rest : List ℕ)
    → (a : AllSteps names t steps done text) → HasRead names t done a.more new rest → AllSteps names t steps new rest
all_read {names} {t} {steps} {done} new rest a r = record {
  more = r.others;
  ahead = r.ahead;
  all = ap (λ (xs : List (Step Node)). xs ++ r.others) r.new_is ∙ append_assoc done (r.first ∷ []) r.others
      ∙ ap (λ (xs : List (Step Node)). done ++ xs) (sym r.more_is) ∙ a.all;
}

pub none_ahead : {names : Names} {t : GroundTree Node} {steps done : List (Step Node)} {text : List ℕ} (new : List (Step Node))
    → (a : AllSteps names t steps done text)
    → (a.more ≡ []) × (new ≡ done) → new ≡ steps
none_ahead {done = done} new a none = none.1 ∙ sym (append-nil done) ∙ ap (λ (xs : List (Step Node)). done ++ xs) (sym none.0) ∙ a.all

-- at first none was read
pub all_start : (own names : Names) → names ≡ own → (done : List (Step Node)) → done ≡ [] → {t : GroundTree Node} {steps : List (Step Node)} {text : List ℕ}
    → IsAhead own t [] steps text → AllSteps names t steps done text
all_start own names same done none {t} {steps} {text} ahead =
    let P : Names → Type 0 = λ ns. IsAhead ns t [] steps text in
    let Q : List (Step Node) → Type 0 = λ ds. IsAhead names t ds steps text in
    record {
      more = steps;
      ahead = subst Q (sym none) (subst P (sym same) ahead);
      all = ap (λ (ds : List (Step Node)). ds ++ steps) none;
    }
