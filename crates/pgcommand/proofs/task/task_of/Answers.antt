use Rattle.std.proofs.Common.{rules}
use Rattle.pgcommand.proofs.task.task_of.Goals as goal
use Rattle.pgcommand.proofs.task.task_of.Goals.{in-show+in_ok-file-in-show}
use Rattle.pgcommand.proofs.task.task_of.Goals.{in-apply+in_ok-task-in-apply}
use Rattle.pgcommand.proofs.task.task_of.Goals.{in-dump+in_ok-store-in-dump}
use Rattle.pgcommand.proofs.task.task_of.Goals.{in-follow+in_ok-task-in-follow}
use Rattle.pgcommand.proofs.task.task_of.Goals.{in-same+in_ok-left-in-same+in_ok-right-in-same}
use Rattle.pgcommand.proofs.task.task_of.Goals.{in-resume+in_ok-value_of-in-resume}
use Rattle.pgcommand.proofs.task.task_of.Goals.{in-lsn+in_ok-value_of-in-lsn}
use Rattle.pgcommand.proofs.task.task_of.Goals.{in-watch+in_ok-file-in-watch}

pub returns : goal.returns
returns c =
    elim c.match-name.branch [
      | in-show+in_ok-file-in-show w ↦ search rules
      | in-apply+in_ok-task-in-apply w ↦ search rules
      | in-dump+in_ok-store-in-dump w ↦ search rules
      | in-follow+in_ok-task-in-follow w ↦ search rules
      | in-same+in_ok-left-in-same+in_ok-right-in-same w ↦ search rules
      | in-resume+in_ok-value_of-in-resume w ↦ search rules
      | in-lsn+in_ok-value_of-in-lsn w ↦ search rules
      | in-watch+in_ok-file-in-watch w ↦ search rules
    ]
