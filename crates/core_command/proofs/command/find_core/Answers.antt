use Rattle.command_base.proofs.AnsweredFiles.{ending_outcome, memory_outcome}
use Rattle.core_command.{specs.CoreAnswers.{IsCoreText}, proofs.{CoreOutcomes.{core_outcome}, CertifiedCores.{core_writable}}}
use Rattle.core_command.proofs.command.find_core.Goals as goal

pub returns-in-Err-clause-outcome : goal.returns-in-Err-clause-outcome
returns-in-Err-clause-outcome g c = ending_outcome IsCoreText c.in-Err.ending c.in-Err.ensures

pub returns-in-Ok-core-clause-outcome : goal.returns-in-Ok-core-clause-outcome
returns-in-Ok-core-clause-outcome g c =
    core_outcome {first_fault = g.S.SecondFile.first_fault} c.in-Ok.ensures c.in-Ok-core.core c.in-Ok-core.ensures.core

pub returns-in-Ok-core-clause-writable : goal.returns-in-Ok-core-clause-writable
returns-in-Ok-core-clause-writable g c =
    let f = c.in-Ok.ensures in
    core_writable f.m f.c f.kept c.in-Ok.front f.front_of c.in-Ok-core.core c.in-Ok-core.ensures.core

pub returns-in-Err-core-clause-outcome : goal.returns-in-Err-core-clause-outcome
returns-in-Err-core-clause-outcome g c = memory_outcome IsCoreText c.in-Ok.ensures
