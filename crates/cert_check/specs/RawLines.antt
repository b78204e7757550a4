-- The lines of a certificate as bytes.
use Rattle.std.specs.Prelude.{ℕ, ◌≡◌, List, ◌++◌, map}
use Rattle.pc_common.specs.Lines.{Line, Verdict, line_words}
use Rattle.cert_check.specs.{Certificates.{Question, IsCertificate, BeginsWell}, Stages.{StandsAt}, declared.stage.Stage.{Stage}}

-- they begin a certificate well
pub record RawBegins (q : Question) (raws : List (List ℕ)) : Type 0 where
  pub lines : List Line
  pub are : raws ≡ map (line_words q.names) lines
  pub begins : BeginsWell q lines

-- they are a certificate
pub record RawWhole (q : Question) (raws : List (List ℕ)) : Type 0 where
  pub verdict : Verdict
  pub lines : List Line
  pub are : raws ≡ map (line_words q.names) lines
  pub certificate : IsCertificate q verdict lines

-- with some more they begin one well
pub record RawFirst (q : Question) (raws : List (List ℕ)) : Type 0 where
  pub more : List (List ℕ)
  pub both : RawBegins q (raws ++ more)

-- a judge took these, and its stage says what they are; no other lines that a certificate may begin with are they
pub record RawStands (q : Question) (stage : Stage) (raws : List (List ℕ)) : Type 0 where
  pub lines : List Line
  pub are : raws ≡ map (line_words q.names) lines
  pub begins : BeginsWell q lines
  pub only : (others : List Line) → raws ≡ map (line_words q.names) others → BeginsWell q others → others ≡ lines
  pub stands : StandsAt q stage lines
