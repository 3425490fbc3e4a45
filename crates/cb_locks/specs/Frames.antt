-- The frames that answer a callback.
use Rattle.cb_frame.specs.declared.frame.Body.TheVariants.{Short}
use Rattle.cb_frame.specs.declared.frame.Frame.{Frame}
use Rattle.cb_frame.specs.declared.frame.ShortBody.{ShortBody}
use Rattle.cb_locks.specs.declared.callback_due.CallbackDue.{CallbackDue}

-- the frame of the client that was called back, of the incarnation that was
abbrev pub saying : CallbackDue → ShortBody → Frame
saying due body =
    record { client = due.client; incarnation = due.incarnation; body = Short body }
