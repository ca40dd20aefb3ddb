-- A notice without its place in memory.
use Rattle.xb_wire.specs.Messages.{Notification, notification}
use Rattle.xb_wire.specs.declared.notice.Notice.{Notice}

-- what a notice says
abbrev pub notice_view : Notice → Notification
notice_view n = notification n.code n.subcode n.extra.now
